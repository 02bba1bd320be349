-- The runs of a J, of either side, one after the other: where the characters of each begin, and of ruby how wide the runs are and how many are longer than one em.
use Rattle.std.specs.Prelude.{◌≡◌, refl, Bool, true, false, cond, [], ◌∷◌, map, ℕ, zero, suc, ◌+◌, ◌≤◌, ltb, length}
use Rattle.std.proofs.Common.{sym, ap, ◌∙◌, subst, zero-le, add-zero, zero-add, arith, length-append}
use Rattle.std.proofs.lemmas.List.{map-append}
use Rattle.basics.specs.Lists.{sum, count, keep}
use Rattle.line.specs.declared.Side.{Side}
use Rattle.line.specs.declared.Side.TheVariants.{Right}
use Rattle.door.specs.declared.Piece.{Piece}
use Rattle.door.specs.Job.{Job, entries}
use Rattle.job.specs.Laws.{entries-add, count-join, keep_append}
use Rattle.join.specs.Rows.{runs_of, run_of, taken, first_at, run_at, run_width, wide_before, longer}

one_more : (k : ℕ) → suc k ≡ k + 1
one_more k = omega arith

module _ (side : Side) (job : Job) (x : Piece) where
  -- the characters of n runs more, and of one
  pub taken_more : (k n : ℕ) → taken side job x (k + n) ≡ taken side job x k + sum (entries (runs_of side job) (run_of side x + k) n)
  taken_more k n = entries-add (runs_of side job) (run_of side x) k n

  pub first_more : (k n : ℕ) → first_at side job x (k + n) ≡ first_at side job x k + sum (entries (runs_of side job) (run_of side x + k) n)
  first_more k n = omega (arith, taken_more k n)

  pub first_next : (k : ℕ) → first_at side job x k + run_at side job x k ≡ first_at side job x (suc k)
  first_next k = sym (ap (first_at side job x) (one_more k) ∙ first_more k 1 ∙ ap (λ m. first_at side job x k + m) (add-zero (run_at side job x k)))

module _ (job : Job) (x : Piece) where
  -- the widths of runs of ruby
  pub wide-more : (k n : ℕ) → wide_before job x (k + n) ≡ wide_before job x k + sum (entries job.ruby_width (first_at Right job x k) (sum (entries job.run (x.run + k) n)))
  wide-more k n =
      ap (λ m. sum (entries job.ruby_width x.ruby m)) (taken_more Right job x k n)
      ∙ entries-add job.ruby_width x.ruby (taken Right job x k) (sum (entries job.run (x.run + k) n))

  pub wide-next : (k : ℕ) → wide_before job x k + run_width Right job x k ≡ wide_before job x (suc k)
  wide-next k =
      sym (ap (wide_before job x) (one_more k) ∙ wide-more k 1 ∙ ap (λ m. wide_before job x k + sum (entries job.ruby_width (first_at Right job x k) m)) (add-zero (run_at Right job x k)))

  -- the longer ones among them
  pub longer-more : (k n : ℕ) → longer job x (k + n) ≡ longer job x k + length (keep (ltb job.em) (map (run_width Right job x) (count k n)))
  longer-more k n =
      ap (λ l. length (keep (ltb job.em) (map (run_width Right job x) l))) (sym (count-join 0 k k n (k + n) (sym (zero-add k)) refl))
      ∙ ap (λ l. length (keep (ltb job.em) l)) (map-append (run_width Right job x) (count 0 k) (count k n))
      ∙ ap length (keep_append (ltb job.em) (map (run_width Right job x) (count 0 k)) (map (run_width Right job x) (count k n)))
      ∙ length-append (keep (ltb job.em) (map (run_width Right job x) (count 0 k))) (keep (ltb job.em) (map (run_width Right job x) (count k n)))

  pub longer-next : (k : ℕ) → longer job x k + cond (ltb job.em (run_width Right job x k)) 1 0 ≡ longer job x (suc k)
  longer-next k = sym (ap (longer job x) (one_more k) ∙ longer-more k 1 ∙ ap (λ m. longer job x k + m) (go (ltb job.em (run_width Right job x k))))
    where
      go : (b : Bool) → length (cond b (run_width Right job x k ∷ []) []) ≡ cond b 1 0
      go true = refl
      go false = refl

  pub longer-few : (k : ℕ) → longer job x k ≤ k
  longer-few zero = zero-le
  longer-few (suc k) = subst (λ m. m ≤ suc k) (longer-next k) (go (ltb job.em (run_width Right job x k)) (longer-few k))
    where
      go : (b : Bool) → longer job x k ≤ k → longer job x k + cond b 1 0 ≤ suc k
      go true h = omega arith
      go false h = omega arith
