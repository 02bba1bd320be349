-- What is written says which answer it is: a text `refused N P` is that of a refusal with the number N, and no result is such a text.
use Rattle.std.specs.Prelude.{List, [], ◌∷◌, ◌++◌, ◌≡◌, ℕ, ◌≤◌, length, get_or, take, drop}
use Rattle.std.proofs.lemmas.Option.{some_pair_parts}
use Rattle.std.proofs.Common.{append_assoc, ◌∙◌, ap, sym, arith, length-append}
use Rattle.std.proofs.Math.Seq.{take-append_seam, drop-append_seam}
use Rattle.text.specs.Text.{most, number}
use Rattle.text.specs.Print.{decimal}
use Rattle.text.specs.Back.{number-back}
use Rattle.refusal.specs.declared.Refusal.{Refusal}
use Rattle.refusal.specs.Refusal.{number_of, place_of, two_digits}
use Rattle.door.specs.Job.{Job}
use Rattle.result.specs.Text.{bytes, line_one, line_two, result_text, refusal_text}

-- two numbers that a space follows: the same text, the same number and the same rest
same_number : (n m : ℕ) (xs ys : List ℕ) → n ≤ most → m ≤ most → decimal n ++ (32 ∷ xs) ≡ decimal m ++ (32 ∷ ys) → (n ≡ m) × (xs ≡ ys)
same_number n m xs ys hn hm e =
    let a = number-back n 32 0 xs hn (omega arith) in
    let b = number-back m 32 0 ys hm (omega arith) in
    let c = sym a ∙ (ap (λ l. number l 32 0) e ∙ b) in
    let f = (some_pair_parts _ _ _ _ c).0 in
    (f, rest (rw f at e))
  where
    rest : decimal m ++ (32 ∷ xs) ≡ decimal m ++ (32 ∷ ys) → xs ≡ ys
    rest g = ap (λ l. drop 1 l) (sym (drop-append_seam (decimal m) (32 ∷ xs)) ∙ (ap (λ l. drop (length (decimal m)) l) g ∙ drop-append_seam (decimal m) (32 ∷ ys)))

-- and what the line's end follows
same-front : (xs ys : List ℕ) → xs ++ (10 ∷ []) ≡ ys ++ (10 ∷ []) → xs ≡ ys
same-front xs ys e =
    let l : length xs ≡ length ys = omega (arith, ap length e, length-append xs (10 ∷ []), length-append ys (10 ∷ [])) in
    sym (take-append_seam xs (10 ∷ [])) ∙ (ap (λ n. take n (xs ++ (10 ∷ []))) l ∙ (ap (λ t. take (length ys) t) e ∙ take-append_seam ys (10 ∷ [])))

-- a text `refused N P` is a refusal's: then N is its number, and P is written as its place is
pub refused-is : (r : Refusal) (n p : ℕ) → n ≤ most → refusal_text r ≡ line_two (bytes "refused") n p → (number_of r ≡ n) × (decimal (place_of r) ≡ decimal p)
unfolding refusal_text line_two
refused-is r n p h e =
    let f = ap (λ l. drop 8 l) e in
    let x = same_number (number_of r) n (decimal (place_of r) ++ (10 ∷ [])) (decimal p ++ (10 ∷ [])) (omega (arith, two_digits r)) h f in
    (x.0, same-front (decimal (place_of r)) (decimal p) x.1)

-- and a text that begins with a refusal's is not another's
pub refused-begins : (r : Refusal) (more : List ℕ) (n p : ℕ) → n ≤ most → refusal_text r ++ more ≡ line_two (bytes "refused") n p → number_of r ≡ n
unfolding refusal_text line_two
refused-begins r more n p h e =
    let rest = decimal (place_of r) ++ (10 ∷ []) in
    let f = sym (append_assoc (decimal (number_of r)) (32 ∷ rest) more) ∙ ap (λ l. drop 8 l) e in
    (same_number (number_of r) n (rest ++ more) (decimal p ++ (10 ∷ [])) (omega (arith, two_digits r)) h f).0

-- a result begins with `lines`
pub no_refusal : (job : Job) (base ruby left : List ℕ) (n p : ℕ) → result_text job base ruby left ≡ line_two (bytes "refused") n p → ⊥
unfolding result_text line_one line_two
no_refusal job base ruby left n p e = omega (arith, ap (λ l. get_or l 0 0) e)
