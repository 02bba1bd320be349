-- Words about lists that the definitions above share. `cond t a b` of the library is a where t is true, else b.
use Rattle.std.specs.Prelude.{◌+◌, Bool, not, List, [], ◌∷◌, ℕ, zero, suc, eqb}
pub use Rattle.std.specs.List.{list_any as any, filter as keep, flat_map as each}
use Rattle.std.specs.List.{AllByRecursion}

abbrev pub sum : List ℕ → ℕ
sum [] = 0
sum (x ∷ xs) = x + sum xs

-- the n numbers from a on
abbrev pub count : ℕ → ℕ → List ℕ
count a zero = []
count a (suc n) = a ∷ count (suc a) n

-- P of each
abbrev pub All : {A : Type 0} → (A → Type 0) → List A → Type 0
All P xs = AllByRecursion P xs

-- x is not v
abbrev pub other : ℕ → ℕ → Bool
other v x = not (eqb v x)

-- the last, or d where there is none
abbrev pub last_or : {A : Type 0} → A → List A → A
last_or d [] = d
last_or d (x ∷ xs) = last_or x xs
