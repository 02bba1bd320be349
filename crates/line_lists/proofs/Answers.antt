-- From the last state to the promise of `set_line`. The state's furthest end is the extent of the least setting, so each test of it decides
-- whether some setting keeps the rules within that bound.
use Rattle.std.proofs.Common.{sym, ap, ◌∙◌, inl, inr, arith, leb-true, leb-false}
use lib.Dec.{leb}
use Rattle.refusal.specs.declared.Refusal.TheVariants.{Short}
use Rattle.std.specs.Prelude.{Result, Ok, Err, ◌≡◌, refl, Bool, true, false, cond, List, ◌++◌, ℕ, ◌*◌, ◌≤◌, ◌<◌, length, drop}
use Rattle.line_lists.specs.declared.Why.{Why}
use Rattle.line_lists.specs.declared.Why.TheVariants.{Refused, Unsound, Long}
use Rattle.line.specs.Rules.{extent, Sounds}
use Rattle.line.specs.Setting.{start, settle, run}
use Rattle.line.proofs.Theorems.{exact, settled, extent-state}
use Rattle.line_lists.specs.Promise.{rows, line, AllWithin, Promise}
use Rattle.line_lists.specs.Passes.{tried}
use Rattle.line_lists.proofs.Rest.{line-length, line_at}

sounds : (t : List ℕ) → AllWithin t → Sounds (line t)
sounds t w i h = rw (line_at t i (omega (arith, line-length t))) (w.each i (omega (arith, line-length t))).sound

-- The answers after a trial: too long, or set.
module _ (m : ℕ) (t : List ℕ) where
  abbrev ext : ℕ
  ext = extent (line t) (settle (line t))

  data Case : Result ℕ Why → Type 0 where
    long : 2 * m < ext → Case (Err Long)
    set : ext ≤ 2 * m → Case (Ok ext)

  by-extent : Case (tried m (run start (line t)))
  by-extent = rw (← extent-state (line t)) (go _ refl)
    where
      go : (b : Bool) → leb ext (2 * m) ≡ b → Case (cond b (Ok ext) (Err Long))
      go true q = set (leb-true _ _ q)
      go false q = long (leb-false _ _ q)

  record IsSet (x : ℕ) : Type 0 where
    pub fits : ext ≤ 2 * m
    pub answer : ◌≡◌ {A = Result ℕ Why} (Ok x) (Ok ext)

  is_set : (x : ℕ) → Ok x ≡ tried m (run start (line t)) → IsSet x
  is_set x q = go _ by-extent (sym q)
    where
      go : (r : Result ℕ Why) → Case r → r ≡ Ok x → IsSet x
      go r (long k) d = absurd cc
      go r (set k) d = record { fits = k; answer = sym d }

  module _ (was : List ℕ) where
    pub promise-short : length was < rows t → Promise m t was was (Err (Refused Short))
    promise-short h = inl (λ r. omega arith, record { answer = refl; untouched = refl })

    module _ (room : rows t ≤ length was) where
      pub promise_unsound : (AllWithin t → ⊥) → Promise m t was was (Err Unsound)
      promise_unsound n = inr (room, inl (n, record { answer = refl; untouched = refl }))

      module _ (w : AllWithin t) where
        pub promise-declined : (r : Result ℕ Why) (why : Why) → r ≡ tried m (run start (line t)) → r ≡ Err why → Promise m t was was r
        promise-declined r why q d = rw q (go _ by-extent (sym q ∙ d))
          where
            go : (r : Result ℕ Why) → Case r → r ≡ Err why → Promise m t was was r
            go r (long k) d = inr (room, inr (w, inl (λ p. omega (arith, (exact m (line t) (sounds t w)).1 p), record { answer = refl; untouched = refl })))
            go r (set k) d = absurd cc

        pub promise-set : (x : ℕ) → Ok x ≡ tried m (run start (line t)) → (now : List ℕ) → now ≡ settle (line t) ++ drop (rows t) was →
            Promise m t was now (Ok x)
        promise-set x q now e =
            let i = is_set x q in
            inr (
              room,
              inr (
                w,
                inr (
                  (exact m (line t) (sounds t w)).0 i.fits,
                  record {
                    origins = settle (line t);
                    setting = settled m (line t) (sounds t w) i.fits;
                    answer = i.answer;
                    written = e ∙ ap (λ k. settle (line t) ++ drop k was) (sym (line-length t));
                  },
                ),
              ),
            )

pub ruleset answer_steps = (promise-short, promise_unsound, promise-declined, promise-set)
