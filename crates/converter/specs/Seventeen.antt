-- Refusal 17 exactly (document 02, R-6): `refused 17 L` is written exactly of a sound sheet that form one can't hold, and L is its first line at fault. The reading gives 13 and 2 alone, the refusal
-- list gives 17 to no job, and a sheet begins with another letter.
-- The theorem is in `proofs/Seventeen.antt`.
use Rattle.std.specs.Prelude.{◌++◌, ◌≡◌, ℕ}
use Rattle.std.proofs.Math.Path.{refl}
use Rattle.text.specs.Print.{bytes, decimal}
use Rattle.refusal.specs.declared.Refusal.TheVariants.{OtherForm}
use Rattle.result.specs.Text.{line_two, refusal_text}

-- a refusal's text, with its number as it is written
pub line_seventeen : (p : ℕ) → bytes "refused 17 " ++ (decimal p ++ bytes "\n") ≡ line_two (bytes "refused") 17 p
unfolding line_two
line_seventeen p = refl

pub text_of : (l : ℕ) → refusal_text (OtherForm l) ≡ line_two (bytes "refused") 17 l
unfolding refusal_text
text_of l = refl
