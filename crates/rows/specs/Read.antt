-- A part of a sheet that was read: the section's count, the place past it, and the number of the line there.
use Rattle.std.specs.Prelude.{ℕ, ◌≡◌, Option, Some, None, ok_or, Result, Ok}
use Rattle.std.proofs.Common.{ap, arith}
use Rattle.refusal.specs.declared.Refusal.{Refusal}
use Rattle.rows.specs.declared.Part.{Part}

abbrev pub Read : ℕ → ℕ → ℕ → Result Part Refusal
Read n at line = Ok (record { count = n; at = at; line = line })

-- one part has one count, one place and one line
pub read_once : (n at line m next l : ℕ) → Read n at line ≡ Read m next l → (n ≡ m) × (at ≡ next) × (line ≡ l)
read_once n at line m next l e =
    let p : ◌≡◌ {A = Part} (record { count = n; at = at; line = line }) (record { count = m; at = next; line = l }) = cc in
    (ap (λ q. q.count) p, ap (λ q. q.at) p, ap (λ q. q.line) p)

-- what `ok_or` was given, by what it gave
pub some_of : {A E : Type 0} (o : Option A) (e : E) (x : A) → ok_or o e ≡ Ok x → Some x ≡ o
some_of None e x h = absurd (let z : ◌≡◌ {A = ℕ} 0 1 = cc in omega arith)
some_of (Some y) e x h = cc
