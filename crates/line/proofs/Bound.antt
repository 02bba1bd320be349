-- No position in a line passes the sum of its elements' totals: an element starts at or before the furthest end so far, and so takes it on
-- by its own total at most.
use Rattle.std.specs.Prelude.{List, [], ◌∷◌, map, ℕ, ◌+◌, ◌≤◌, max}
use Rattle.std.proofs.Common.{zero-le, arith}
use Rattle.basics.specs.Lists.{sum}
use Rattle.line.specs.declared.Element.{Element}
use Rattle.line.specs.declared.State.{State}
use Rattle.line.specs.declared.Side.{Side}
use Rattle.line.specs.declared.Side.TheVariants.{Right, Left}
use Rattle.line.specs.Rules.{ruby, HasRuby, ruby_of, ruby_end, extent}
use Rattle.line.specs.Setting.{start, reach, put, asks, asked, origin, settle, run, furthest, ruby_total, total}
use Rattle.line.specs.Flag.{by_flag, raised}
use Rattle.line.specs.Least.{max_le, reach-put}
use Rattle.line.proofs.Extent.{furthest_le, reach-furthest}
use Rattle.line.proofs.Theorems.{extent-state}

pub upto-total : (s : Side) (e : Element) → HasRuby s e → (ruby s e).upto ≤ total e
upto-total s e t = omega (arith, raised (ruby s e).there (ruby s e).upto 0 t, one s)
  where
    one : (s : Side) → ruby_total s e ≤ total e
    one Right = omega arith
    one Left = omega arith

asked_bound : (s : Side) (st : State) (e : Element) → asked s st e ≤ furthest st
unfolding asks
asked_bound s st e = four (omega arith) (omega (arith, reach-furthest s st)) (omega (arith, reach-furthest s st)) (omega arith)
  where
    four : {a b c d z : ℕ} → a ≤ z → b ≤ z → c ≤ z → d ≤ z → max (max a b) (max c d) ≤ z
    four h i j k = max_le (max_le h i) (max_le j k)

pub origin_bound : (st : State) (e : Element) → origin st e ≤ furthest st
unfolding origin
origin_bound st e = max_le (asked_bound Right st e) (asked_bound Left st e)

pub put_bound : (st : State) (e : Element) → furthest (put st e (origin st e)) ≤ furthest st + total e
put_bound st e = go (origin st e) (origin_bound st e)
  where
    go : (x : ℕ) → x ≤ furthest st → furthest (put st e x) ≤ furthest st + total e
    go x h = furthest_le (put st e x) (furthest st + total e) (omega arith) (λ s. omega (arith, reach-put s st e x, max_le (reached s) (ends s)))
      where
        reached : (s : Side) → reach s st ≤ furthest st + total e
        reached s = omega (arith, reach-furthest s st)

        ends : (s : Side) → ruby_end s e x ≤ furthest st + total e
        ends s = by_flag (λ v. v ≤ furthest st + total e) (ruby s e).there (ruby_of s e x).end 0 (λ t. omega (arith, upto-total s e t)) (λ n. zero-le)

pub run_bound : (st : State) (es : List Element) → furthest (run st es) ≤ furthest st + sum (map total es)
unfolding run
run_bound st [] = omega arith
run_bound st (e ∷ es) = go (furthest st) (total e) (sum (map total es)) (run_bound (put st e (origin st e)) es) (put_bound st e)
  where
    go : {a b : ℕ} (f s t : ℕ) → a ≤ b + t → b ≤ f + s → a ≤ f + (s + t)
    go f s t h k = omega arith

-- every block and ruby ends within the sum
pub bounded : (es : List Element) → extent es (settle es) ≤ sum (map total es)
bounded es = omega (arith, extent-state es, run_bound start es)
