-- Many sheets in one run: for each frame of the input a call of what answers.
use Rattle.std.specs.Prelude.{List, ◌≡◌, ℕ, zero, suc, min, take, drop, Option, Some, None, Result, Ok}
use Rattle.std.specs.Fn.{Mut, Called}
use Rattle.std.specs.declared.io.Error.{Error}
use Rattle.frames.specs.Frames.{past_line, frame_in}
use denote.Ref.{Bor, MutBor}

-- what answers is called with a sheet and with the writer; it hands up the writer's error
abbrev pub Answering : Type 0 → Type 0 → Type 1
Answering F W = Mut F (Bor (List ℕ) × (MutBor W × Unit {0})) (Result Unit Error × (MutBor W × Unit {0}))

module _ {F W : Type 0} (g : Answering F W) where
  -- one call that went well: it takes a sheet, and leaves the writer and itself so
  pub record Answer (f : F) (sheet : List ℕ) (w : W) (f' : F) (w' : W) : Type 0 where
    pub shown : Bor (List ℕ)
    pub lent : MutBor W
    pub left : MutBor W
    pub shows : shown.now ≡ sheet
    pub lends : lent.now ≡ w
    pub met : Called g f (shown, (lent, tt)) (Ok tt, (left, tt)) f'
    pub leaves : left.now ≡ w'

  -- The calls for an input of at most n frames, one after the other, and what is left of it. A sheet is told by its first 65,536 bytes.
  pub data Answers : ℕ → List ℕ → F → W → F → W → List ℕ → Type 0 where
    full : (xs : List ℕ) (f : F) (w : W) → Answers zero xs f w f w xs
    over : (n : ℕ) (xs : List ℕ) (f : F) (w : W) → frame_in xs ≡ None → Answers (suc n) xs f w f w (past_line 32 xs)
    one : (n : ℕ) (xs : List ℕ) (f : F) (w : W) (k : ℕ) (f' : F) (w' : W) (last : F) (end : W) (rest : List ℕ) → frame_in xs ≡ Some k → Answer f (take (min k 65536) (past_line 32 xs)) w f' w' →
        Answers n (drop k (past_line 32 xs)) f' w' last end rest → Answers (suc n) xs f w last end rest

  -- The run over a whole input: what is left of it, and the writer in the end.
  pub record Ran (n : ℕ) (f : F) (xs : List ℕ) (left : Option (List ℕ)) (w end : W) : Type 0 where
    pub last : F
    pub rest : List ℕ
    pub answers : Answers n xs f w last end rest
    pub remains : left ≡ Some rest
