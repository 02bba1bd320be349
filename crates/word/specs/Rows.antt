-- Numbers 7 to 10 of a word with readings on both sides, by the lists that they read: the first that holds.
use Rattle.std.specs.Prelude.{◌≡◌, Bool, ◌&&◌, ◌||◌, List, ℕ, Result, Ok, Err, ⊤}
use Rattle.std.proofs.Math.Path.{refl}
use Rattle.std.proofs.Math.Bool.{true, false, cond}
use Rattle.basics.specs.Lists.{any, other}
use Rattle.basics.specs.Laws.{or_none}
use Rattle.refusal.specs.declared.Refusal.{Refusal}
use Rattle.refusal.specs.declared.Refusal.TheVariants.{BlankInside, JukugoBase, Mixed, WesternOver}
use Rattle.word.specs.declared.Form.{Form}
use Rattle.word.specs.declared.Answer.{Answer}
use Rattle.word.specs.declared.Answer.TheVariants.{Set, Refused}
use Rattle.word.specs.declared.Sort.{Sort}
use Rattle.word.specs.declared.Form.TheVariants as form
use Rattle.class.specs.Class.{western}
use Rattle.word.specs.Given.{Given, has_ruby, is_g, is_j}
use Rattle.word.specs.Answer.{mixed}
use Rattle.word.specs.Both.{Gloss}
use Rattle.word.specs.Sides.{word_of}
use Rattle.word.specs.Answered.{answer_both}
use Rattle.word.specs.Kinds.{sort_of, is_mixed, not_kana, is_western, mixed-sort, kana-sort, western-sort}

-- by what is found in the strings: blanks, what base, ruby and left reading are made of, and base characters that are not one em wide
unfoldable pub row_of : Form → ℕ → Bool → Sort → Bool → Sort → Sort → Result ⊤ Refusal
row_of form place blank b wide r l =
    cond blank (Err (BlankInside place))
    (cond (is_j form && (not_kana b || wide)) (Err (JukugoBase place))
    (cond ((is_g form || is_j form) && ((is_mixed b || is_mixed r) || is_mixed l)) (Err (Mixed place))
    (cond (is_g form && ((is_western r && is_western b) || (is_western l && is_western b))) (Err (WesternOver place))
    (Ok tt))))

abbrev pub row_by : Form → ℕ → ℕ → List ℕ → List ℕ → List ℕ → List ℕ → List ℕ → List ℕ → Result ⊤ Refusal
row_by form place em bc bs before after rc lc = row_of form place (any (other 0) before || any (other 0) after) (sort_of bc) (any (other em) bs) (sort_of rc) (sort_of lc)

-- Level one's answer is the row that holds, or the word.

kinds : (form : Form) (b r l : Bool) → (((is_g form || is_j form) && (b || r)) || ((is_g form || is_j form) && l)) ≡ ((is_g form || is_j form) && ((b || r) || l))
kinds form.P b r l = refl
kinds form.M b r l = refl
kinds form.G b r l = refl
kinds form.J b r l = refl

westerns : (form : Form) (r l b : Bool) → ((is_g form && (r && b)) || (is_g form && (l && b))) ≡ (is_g form && ((r && b) || (l && b)))
westerns form.P r l b = refl
westerns form.M r l b = refl
westerns form.G r l b = refl
westerns form.J r l b = refl

-- what 9 lets pass is no mixture, and Western or not throughout
unmixed : (form : Form) (bc rc lc : List ℕ) → ((is_g form || is_j form) && ((is_mixed (sort_of bc) || is_mixed (sort_of rc)) || is_mixed (sort_of lc))) ≡ false →
    (is_g form && ((any western rc && any western bc) || (any western lc && any western bc)))
    ≡ (is_g form && ((is_western (sort_of rc) && is_western (sort_of bc)) || (is_western (sort_of lc) && is_western (sort_of bc))))
unmixed form.P bc rc lc e = refl
unmixed form.M bc rc lc e = refl
unmixed form.J bc rc lc e = refl
unmixed form.G bc rc lc e =
    let p = or_none (is_mixed (sort_of bc) || is_mixed (sort_of rc)) (is_mixed (sort_of lc)) e in
    let q = or_none (is_mixed (sort_of bc)) (is_mixed (sort_of rc)) p.0 in
    rw (western-sort bc q.0, western-sort rc q.1, western-sort lc p.1)

module _ (form : Form) (place : ℕ) (w : Given) (g : Gloss) (ruby : has_ruby form ≡ true) where
  abbrev row : Result ⊤ Refusal
  row = row_by form place w.em w.class w.width w.before w.after w.ruby_class g.class

  abbrev pub answered : Result ⊤ Refusal → Answer
  answered (Ok tt) = Set (word_of form w g)
  answered (Err r) = Refused r

  pub by_row : answer_both form place w g ≡ answered row
  unfolding answer_both row_of
  by_row =
      rw (
        ruby,
        kana-sort w.class,
        kinds form (mixed w.class) (mixed w.ruby_class) (mixed g.class),
        westerns form (any western w.ruby_class) (any western g.class) (any western w.class),
        mixed-sort w.class,
        mixed-sort w.ruby_class,
        mixed-sort g.class,
      )
      (go (any (other 0) w.before || any (other 0) w.after) (is_j form && (not_kana (sort_of w.class) || any (other w.em) w.width))
      ((is_g form || is_j form) && ((is_mixed (sort_of w.class) || is_mixed (sort_of w.ruby_class)) || is_mixed (sort_of g.class)))
      (is_g form && ((any western w.ruby_class && any western w.class) || (any western g.class && any western w.class)))
      (is_g form && ((is_western (sort_of w.ruby_class) && is_western (sort_of w.class)) || (is_western (sort_of g.class) && is_western (sort_of w.class))))
      (unmixed form w.class w.ruby_class g.class))
    where
      go : (a b c d e : Bool) → (c ≡ false → d ≡ e) →
          cond a (Refused (BlankInside place)) (cond b (Refused (JukugoBase place)) (cond c (Refused (Mixed place)) (cond d (Refused (WesternOver place)) (Set (word_of form w g)))))
          ≡ answered (cond a (Err (BlankInside place)) (cond b (Err (JukugoBase place)) (cond c (Err (Mixed place)) (cond e (Err (WesternOver place)) (Ok tt)))))
      go true b c d e h = refl
      go false true c d e h = refl
      go false false true d e h = refl
      go false false false d true h = rw (h refl)
      go false false false d false h = rw (h refl)
