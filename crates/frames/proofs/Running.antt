-- Before each frame the calls for what is left are the calls for the whole input that are still to come.
use Rattle.std.specs.Prelude.{◌≡◌, refl, List, ℕ, suc, ◌+◌, ◌-◌, ◌≤◌, ◌<◌, min, take, drop, Option, Some, None, IfSome, Result, Ok}
use Rattle.std.proofs.Common.{arith, sym, ◌∙◌, subst}
use Rattle.std.specs.Fn.{Called}
use Rattle.std.specs.declared.io.Error.{Error}
use denote.Ref.{Bor, MutBor}
use Rattle.frames.specs.Frames.{past_line, frame_in}
use Rattle.frames.specs.Answers.{Answering, Answer, Answers, full, over, one, Ran}

module _ {F W : Type 0} (g : Answering F W) where
  -- a call that went well
  pub answered : {now next : F} {shown : Bor (List ℕ)} {lent left : MutBor W} {r : Result Unit Error} {u : Unit} → Called g now (shown, (lent, tt)) (r, (left, tt)) next → r ≡ Ok u →
      Answer g now shown.now lent.now next left.now
  answered {now} {next} {shown} {lent} {left} c e =
      record {
        shown = shown;
        lent = lent;
        left = left;
        shows = refl;
        lends = refl;
        met = subst (λ r. Called g now (shown, (lent, tt)) (r, (left, tt)) next) e c;
        leaves = refl;
      }

module _ {F W : Type 0} (g : Answering F W) (most : ℕ) (f : F) (w : W) where
  pub record Onward (xs : List ℕ) (left : Option (List ℕ)) (now : F) (to : W) (i : ℕ) : Type 0 where
    pub rest : List ℕ
    pub remains : left ≡ Some rest
    pub on : (last : F) (end : W) (over : List ℕ) → Answers g (most - i) rest now to last end over → Answers g most xs f w last end over

  abbrev pub Going : Option (List ℕ) → Option (List ℕ) → F → W → ℕ → Type 0
  Going input left now to i = IfSome input (λ xs. Onward xs left now to i)

  pub going-first : (input : Option (List ℕ)) → Going input input f w 0
  going-first None = tt
  going-first (Some xs) =
      let s : most - 0 ≡ most = omega arith in
      record { rest = xs; remains = refl; on = λ last end over a. rw s at a }

  -- no frame follows
  pub going-over : (input mid left : Option (List ℕ)) (now : F) (to : W) (i : ℕ) → i < most → Going input mid now to i → (frame : Option ℕ) → frame ≡ None →
      IfSome mid (λ xs. (frame ≡ frame_in xs) × (left ≡ Some (past_line 32 xs))) → IfSome input (λ xs. Ran g most f xs left w to)
  going-over None mid left now to i h p frame none read = tt
  going-over (Some xs) mid left now to i h p frame none read =
      let r = rw p.remains at read in
      let s : most - i ≡ suc (most - (i + 1)) = omega arith in
      record {
        last = now;
        rest = past_line 32 p.rest;
        answers = p.on now to (past_line 32 p.rest) (rw s (over (most - (i + 1)) p.rest now to (sym r.0 ∙ none)));
        remains = r.1;
      }

  -- the last turn was taken
  pub going-full : (input left : Option (List ℕ)) (now : F) (to : W) (i : ℕ) → most ≤ i → Going input left now to i → IfSome input (λ xs. Ran g most f xs left w to)
  going-full None left now to i h p = tt
  going-full (Some xs) left now to i h p =
      let s : most - i ≡ 0 = omega arith in
      record { last = now; rest = p.rest; answers = p.on now to p.rest (rw s (full p.rest now to)); remains = p.remains }

  -- a frame, and its answer
  pub going-next : (input mid past left : Option (List ℕ)) (now : F) (to : W) (i k got : ℕ) (room : List ℕ) (next : F) (after : W) → i < most → Going input mid now to i →
      (frame : Option ℕ) → frame ≡ Some k → IfSome mid (λ xs. (frame ≡ frame_in xs) × (past ≡ Some (past_line 32 xs))) →
      IfSome past (λ xs. (take got room ≡ take (min k 65536) xs) × (left ≡ Some (drop k xs))) → Answer g now (take got room) to next after → Going input left next after (i + 1)
  going-next None mid past left now to i k got room next after h p frame some read sheet answer = tt
  going-next (Some xs) mid past left now to i k got room next after h p frame some read sheet answer =
      let r = rw p.remains at read in
      let t = rw r.1 at sheet in
      let s : most - i ≡ suc (most - (i + 1)) = omega arith in
      let said = subst (λ bytes. Answer g now bytes to next after) t.0 answer in
      record {
        rest = drop k (past_line 32 p.rest);
        remains = t.1;
        on = λ last end over a. p.on last end over (rw s (one (most - (i + 1)) p.rest now to k next after last end over (sym r.0 ∙ some) said a));
      }
