-- What a line sees of a piece is what its characters take up: the block and either reading run from the first character's start to the last one's end, and every
-- character lies between. This holds of every piece of every line, the parts of a cut J among them.
use Rattle.std.specs.Prelude.{◌≡◌, Bool, true, false, List, [], ◌∷◌, map, ◌⊎◌, ℕ, zero, suc, ◌+◌, ◌-◌, ◌≤◌, ◌<◌, length, get_or}
use Rattle.std.proofs.Math.Path.{refl, sym, subst}
use Rattle.std.proofs.Common.{ap, ◌∙◌, inl, inr, arith}
use Rattle.std.proofs.Math.Dec.{T}
use Rattle.std.proofs.lemmas.List.{length-map}
use Rattle.word.specs.declared.Form.{Form}
use Rattle.word.specs.declared.Form.TheVariants.{P, M, G, J}
use Rattle.readings.specs.Standing.{Stands}
use Rattle.line.specs.declared.Side.{Side}
use Rattle.line.specs.declared.Side.TheVariants.{Right, Left}
use Rattle.line.specs.Rules.{el, ruby, HasRuby}
use Rattle.door.specs.declared.Piece.{Piece}
use Rattle.door.specs.Job.{Job, entries, given}
use Rattle.door.specs.Entries.{length-entries}
use Rattle.job.specs.Line.{pieces, word_of, on_p, depths_at, seen, line_of, many_of, has_reading, widths_in, on_side, alone}
use Rattle.job.specs.Laws.{entries_at}
use Rattle.job.specs.Words.{GoodPiece, promise}
use Rattle.job.proofs.Sound.{is_true}
use Rattle.job.proofs.Placed.{stands}
use Rattle.job.specs.Promise.{IsLine, nobody, piece_of}

pub entry_of : (xs : List ℕ) (a n i : ℕ) → a ≤ i → i < a + n → get_or (entries xs a n) (i - a) 0 ≡ get_or xs i 0
entry_of xs a n i l h = entries_at xs a n (i - a) (omega arith) ∙ ap (λ (q : ℕ). get_or xs q 0) (back a i l)
  where
    back : (a i : ℕ) → a ≤ i → a + (i - a) ≡ i
    back a i l = omega arith

module _ (job : Job) (p : Piece) (g : GoodPiece job p) where
  -- "The base block runs from the start of the first base character to the end of the last", and every base character lies between.
  pub base-stands : Stands (alone job p).base (given job p).width (seen job p).front ((seen job p).front + (seen job p).len)
  unfolding seen
  base-stands = (stands job p g).base

  -- A reading likewise.
  pub reading-stands : (side : Side) → has_reading side p ≡ true → Stands (on_side side (alone job p)) (widths_in side job p) (ruby side (seen job p)).from (ruby side (seen job p)).upto
  unfolding seen
  reading-stands Right = (stands job p g).right
  reading-stands Left = (stands job p g).left

  pub none_of : (side : Side) → has_reading side p ≡ false → many_of side p ≡ 0
  none_of Right e = sym (length-entries job.ruby_width p.ruby p.rubies) ∙ ap length (g.ready.plain e)
  none_of Left e = sym (length-entries job.left_width p.left p.lefts) ∙ ap length (g.ready.left.none e)

  pub some_of : (side : Side) → has_reading side p ≡ true → 0 < many_of side p
  some_of Right e = omega (arith, length-entries job.ruby_width p.ruby p.rubies, g.ready.sized.reads e)
  some_of Left e = omega (arith, length-entries job.left_width p.left p.lefts, g.ready.left.reads e)

  pub has_reading_lem : (side : Side) → 0 < many_of side p → has_reading side p ≡ true
  has_reading_lem side h = go (has_reading side p) refl
    where
      go : (t : Bool) → has_reading side p ≡ t → t ≡ true
      go true e = refl
      go false e = absurd (omega (arith, none_of side e))

  pub flagged : (side : Side) → has_reading side p ≡ true → HasRuby side (seen job p)
  unfolding seen
  flagged Right h = subst T (sym ((promise job p g).right.is ∙ h)) tt
  flagged Left h = subst T (sym ((promise job p g).left.is ∙ h)) tt

  -- a reading that a line sees has characters, and so some length
  pub seen-reading : (side : Side) → HasRuby side (seen job p) → has_reading side p ≡ true
  unfolding seen
  seen-reading Right t = sym (promise job p g).right.is ∙ is_true (word_of job p).right.there t
  seen-reading Left t = sym (promise job p g).left.is ∙ is_true (word_of job p).left.there t

  pub before-is : (seen job p).before ≡ on_p p.form (depths_at job p.base).before
  unfolding seen
  before-is = refl

  pub after_is : (seen job p).after ≡ on_p p.form (depths_at job p.base).after
  unfolding seen
  after_is = refl

map-el : (job : Job) (ps : List Piece) (k : ℕ) → k < length ps → el (map (seen job) ps) k ≡ seen job (get_or ps k nobody)
map-el job [] k h = absurd (omega arith)
map-el job (p ∷ ps) zero h = refl
map-el job (p ∷ ps) (suc k) h = map-el job ps k (omega arith)

pub el-seen : (job : Job) (s e k : ℕ) → k < length (pieces job s e) → el (line_of job s e) k ≡ seen job (piece_of job s e k)
unfolding line_of
el-seen job s e = map-el job (pieces job s e)

pub length-line : (job : Job) (s e : ℕ) → length (line_of job s e) ≡ length (pieces job s e)
unfolding line_of
length-line job s e = length-map (pieces job s e) (seen job)

-- the n-th of the lines with these ends
pub nth_line : (s : ℕ) (es : List ℕ) (n : ℕ) → n < length es → IsLine s es (get_or (s ∷ es) n 0) (get_or es n 0)
nth_line s [] n h = absurd (omega arith)
nth_line s (e ∷ es) zero h = inl (refl, refl)
nth_line s (e ∷ es) (suc n) h = inr (nth_line e es n (omega arith))

pub nth_of : (s : ℕ) (es : List ℕ) (a b : ℕ) → IsLine s es a b → (n : ℕ) × (n < length es) × (get_or (s ∷ es) n 0 ≡ a) × (get_or es n 0 ≡ b)
nth_of s [] a b l = absurd l
nth_of s (e ∷ es) a b (inl l) = (0, omega arith, sym l.0, sym l.1)
nth_of s (e ∷ es) a b (inr l) = let q = nth_of e es a b l in (suc q.0, omega (arith, q.1), q.2, q.3)

-- a depth is there only on a P
pub on_p_lem : (form : Form) (depth : ℕ) → (on_p form depth ≡ 0) ⊎ ((form ≡ P) × (on_p form depth ≡ depth))
on_p_lem P depth = inr (refl, refl)
on_p_lem M depth = inl refl
on_p_lem G depth = inl refl
on_p_lem J depth = inl refl
