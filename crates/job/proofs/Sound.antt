-- Every line of a job that passes the door is a line of elements that are set within themselves: what level one promises of a word is what level two asks
-- of an element. So the theorems of `line` hold of it.
use Rattle.std.specs.Prelude.{◌≡◌, refl, Bool, true, List, [], ◌∷◌, map, ℕ, zero, suc, ◌*◌, ◌≤◌, ◌<◌, T, eqb, get_or}
use Rattle.std.proofs.Common.{sym, ◌∙◌, true≢false, inl, inr, zero-le, arith}
use Rattle.std.proofs.Math.Bool.{false}
use Rattle.std.proofs.lemmas.Bool.{false≢true}
use Rattle.basics.specs.Lists.{All}
use Rattle.class.specs.Laws.{before-within, after-within}
use Rattle.word.specs.declared.Form.{Form}
use Rattle.word.specs.declared.Form.TheVariants.{P, M, G, J}
use Rattle.word.specs.declared.Left.{Left as LeftKind}
use Rattle.word.specs.declared.Left.TheVariants as left
use Rattle.word.specs.declared.Word.{Word}
use Rattle.word.specs.Given.{has_ruby}
use Rattle.word.specs.Both.{has_left, takes}
use Rattle.word.specs.Kept as word
use Rattle.line.specs.declared.Element.{Element}
use Rattle.line.specs.declared.Side.{Side}
use Rattle.line.specs.declared.Side.TheVariants.{Right, Left}
use Rattle.line.specs.Rules.{ruby, HasRuby, Inside, Sound, Sounds}
use Rattle.line.specs.Words.{base-longest, no_reading, reading-longest}
use Rattle.door.specs.declared.Piece.{Piece}
use Rattle.door.specs.Job.{Job, given, gloss_of}
use Rattle.door.specs.Entries.{sum_first}
use Rattle.door.specs.Passed.{Passed}
use Rattle.job.specs.Line.{pieces, word_of, on_p, depths_at, seen, line_of}
use Rattle.job.specs.Words.{GoodPiece, promise}
use Rattle.job.proofs.Pieces.{good-pieces}

pub on_le : (form : Form) (depth n : ℕ) → depth ≤ n → on_p form depth ≤ n
on_le P depth n h = h
on_le M depth n h = zero-le
on_le G depth n h = zero-le
on_le J depth n h = zero-le

pub on_none : (form : Form) (depth : ℕ) → has_ruby form ≡ true → on_p form depth ≡ 0
on_none P depth h = absurd (true≢false (sym h))
on_none M depth h = refl
on_none G depth h = refl
on_none J depth h = refl

-- a P has no left reading
pub plain-left : (form : Form) (k : LeftKind) → has_ruby form ≡ false → takes form k ≡ true → has_left k ≡ false
plain-left P left.N h t = refl
plain-left P left.M h t = absurd (false≢true t)
plain-left P left.G h t = absurd (false≢true t)
plain-left P left.J h t = absurd (false≢true t)
plain-left M k h t = absurd (true≢false h)
plain-left G k h t = absurd (true≢false h)
plain-left J k h t = absurd (true≢false h)

pub is_true : (t : Bool) → T t → t ≡ true
is_true true h = refl
is_true false h = absurd h

is : (t : Bool) → t ≡ true → T t
is true e = tt
is false e = absurd (true≢false (sym e))

module _ (job : Job) (passed : Passed job) where
  module _ (p : Piece) (g : GoodPiece job p) where
    v : Word
    v = word_of job p

    k : word.Kept p.form (given job p) (gloss_of job p) (word_of job p)
    k = promise job p g

    -- a word with readings takes none on it
    with_ruby : has_ruby p.form ≡ true → Sound (seen job p)
    unfolding seen
    with_ruby h = by k.longest
      where
        e : Element
        e = seen job p

        none : (depth : ℕ) → on_p p.form depth ≡ 0
        none depth = on_none p.form depth h

        by : word.Longest (word_of job p) → Sound (seen job p)
        by (inl b) =
            base-longest (seen job p) k.some b.flush (none _) (none _)
            inside
          where
            inside : (s : Side) → HasRuby s (seen job p) → Inside (seen job p) (ruby s (seen job p))
            inside Right t = let i = b.right (is_true (word_of job p).right.there t) in record { enters = i.enters; runs = i.runs; leaves = i.leaves }
            inside Left t = let i = b.left (is_true (word_of job p).left.there t) in record { enters = i.enters; runs = i.runs; leaves = i.leaves }
        by (inr (inl r)) =
            reading-longest Right (seen job p) k.some (none _) (none _) (is (word_of job p).right.there r.there) r.flush (record { leads = r.around.leads; trails = r.around.trails })
            (λ t. let o = r.other (is_true (word_of job p).left.there t) in record { enters = o.enters; runs = o.runs; leaves = o.leaves })
        by (inr (inr r)) =
            reading-longest Left (seen job p) k.some (none _) (none _) (is (word_of job p).left.there r.there) r.flush (record { leads = r.around.leads; trails = r.around.trails })
            (λ t. let o = r.other (is_true (word_of job p).right.there t) in record { enters = o.enters; runs = o.runs; leaves = o.leaves })

    -- a P has no readings, and its depths lie within its length
    plain : has_ruby p.form ≡ false → Sound (seen job p)
    unfolding seen
    plain h = no_reading (seen job p) k.some (flush k.longest) before after none
      where
        none_right : (word_of job p).right.there ≡ false
        none_right = k.right.is ∙ h

        none_left : (word_of job p).left.there ≡ false
        none_left = k.left.is ∙ plain-left p.form p.gloss h g.ready.left.takes

        none : (s : Side) → HasRuby s (seen job p) → ⊥
        none Right t = true≢false (sym (is_true (word_of job p).right.there t) ∙ none_right)
        none Left t = true≢false (sym (is_true (word_of job p).left.there t) ∙ none_left)

        flush : word.Longest (word_of job p) → (word_of job p).front ≡ 0
        flush (inl b) = b.flush
        flush (inr (inl r)) = absurd (true≢false (sym r.there ∙ none_right))
        flush (inr (inr r)) = absurd (true≢false (sym r.there ∙ none_left))

        w : ℕ
        w = get_or job.width p.base 0

        wide : 2 * w ≤ (word_of job p).len
        wide = omega (arith, k.block, sum_first job.width p.base p.bases g.some)

        before : on_p p.form (depths_at job p.base).before ≤ (word_of job p).len
        before =
            on_le p.form _ _
            (omega (
              arith,
              wide,
              before-within job.profile (eqb p.base 0) (get_or job.class p.base 0) w (get_or job.before p.base 0) (get_or job.after p.base 0) job.em
                  (omega (arith, (passed.base p.base (omega (arith, g.some, g.inside))).blanks)),
            ))

        after : on_p p.form (depths_at job p.base).after ≤ (word_of job p).len
        after =
            on_le p.form _ _
            (omega (
              arith,
              wide,
              after-within job.profile (eqb p.base 0) (get_or job.class p.base 0) w (get_or job.before p.base 0) (get_or job.after p.base 0) job.em
                  (omega (arith, (passed.base p.base (omega (arith, g.some, g.inside))).blanks)),
            ))

    sound : Sound (seen job p)
    sound = go (has_ruby p.form) refl
      where
        go : (t : Bool) → has_ruby p.form ≡ t → Sound (seen job p)
        go true h = with_ruby h
        go false h = plain h

  sounds-of : (ps : List Piece) → All (GoodPiece job) ps → Sounds (map (seen job) ps)
  sounds-of [] a i h = absurd (none i h)
    where
      none : (i : ℕ) → i < 0 → ⊥
      none i h = omega arith
  sounds-of (p ∷ ps) a zero h = sound p a.0
  sounds-of (p ∷ ps) a (suc i) h = sounds-of ps a.1 i (omega arith)

  pub sounds : (s e : ℕ) → Sounds (line_of job s e)
  unfolding line_of
  sounds s e = sounds-of (pieces job s e) (good-pieces job passed s e)
