-- "What the word alone decides, its neighbours never alter": two words that are given alike in what their form and their left reading read of them stand alike, and their records,
-- by which a line knows them, are one.
use Rattle.std.specs.Prelude.{◌≡◌, refl, Bool, true, false, cond, []}
use Rattle.std.proofs.Common.{ap, ◌∙◌}
use Rattle.word.specs.declared.Form.{Form}
use Rattle.word.specs.declared.Form.TheVariants as form
use Rattle.word.specs.declared.Script.TheVariants.{Kana}
use Rattle.word.specs.declared.Word.{Word}
use Rattle.word.specs.Given.{Given, is_j}
use Rattle.word.specs.Alone.{script}
use Rattle.word.specs.Alone as alone
use Rattle.word.specs.Word as one
use Rattle.word.specs.Theorems.{Alike, places-alike, word-alike}
use Rattle.word.specs.Both.{Both, Gloss, has_left, is_group, groups, jukugos, two, places}
use Rattle.word.specs.Sides.{str_of, groups_word, jukugos_word, jukugos_by, two_by, word_two, word_of}

-- Two words are given alike in what their form and their left reading read of them: runs are read of a J only, and left runs but for a left G.
pub record AlikeBoth (form : Form) (v : Given) (f : Gloss) (w : Given) (g : Gloss) : Type 0 where
  pub given : Alike form v w
  pub kind : f.kind ≡ g.kind
  pub class : f.class ≡ g.class
  pub width : f.width ≡ g.width
  pub run : is_j form ≡ true → has_left f.kind ≡ true → is_group f.kind ≡ false → f.run ≡ g.run

-- with a left reading
two-alike : (form : Form) (v : Given) (f : Gloss) (w : Given) (g : Gloss) → AlikeBoth form v f w g → has_left f.kind ≡ true → two form v f ≡ two form w g
unfolding two
two-alike form.P v f w g a h = ap (λ (ps : alone.Places). record { base = ps.base; right = []; left = [] }) (places-alike form.P v w a.given)
two-alike form.M v f w g a h = let b = a.given.width in let r = a.given.ruby_width in let l = a.width in cc
two-alike form.G v f w g a h =
    let e = a.given.em in let t = a.given.ratios in let b = a.given.width in let r = a.given.ruby_width in let c = a.given.class in let d = a.given.ruby_class in let l = a.width in let k = a.class in cc
two-alike form.J v f w g a h = by_kind (is_group f.kind) refl ∙ ap (λ (t : Bool). cond t grouped run-by-run) (ap is_group a.kind)
  where
    grouped : Both
    grouped = groups (script w.ruby_class) (script g.class) Kana w.ratios w.em w.width w.ruby_width g.width

    run-by-run : Both
    run-by-run = jukugos (script w.ruby_class) (script g.class) w.ratios w.em w.width w.run w.ruby_width g.run g.width

    by_kind : (t : Bool) → is_group f.kind ≡ t →
        cond t (groups (script v.ruby_class) (script f.class) Kana v.ratios v.em v.width v.ruby_width f.width)
        (jukugos (script v.ruby_class) (script f.class) v.ratios v.em v.width v.run v.ruby_width f.run f.width)
        ≡ cond t grouped run-by-run
    by_kind true q =
        let e = a.given.em in let t = a.given.ratios in let b = a.given.width in let r = a.given.ruby_width in let d = a.given.ruby_class in let l = a.width in let k = a.class in cc
    by_kind false q =
        let e = a.given.em in let t = a.given.ratios in let b = a.given.width in let r = a.given.ruby_width in let d = a.given.ruby_class in let l = a.width in let k = a.class in
        let u = a.given.run refl in let x = a.run refl h q in cc

pub both-alike : (form : Form) (v : Given) (f : Gloss) (w : Given) (g : Gloss) → AlikeBoth form v f w g → places form v f ≡ places form w g
unfolding places
both-alike form v f w g a = go (has_left f.kind) refl ∙ ap (λ (t : Bool). cond t (two form w g) alone-w) (ap has_left a.kind)
  where
    alone-w : Both
    alone-w = record { base = (alone.places form w).base; right = (alone.places form w).ruby; left = [] }

    go : (t : Bool) → has_left f.kind ≡ t → cond t (two form v f) (record { base = (alone.places form v).base; right = (alone.places form v).ruby; left = [] }) ≡ cond t (two form w g) alone-w
    go true h = two-alike form v f w g a h
    go false h = ap (λ (ps : alone.Places). record { base = ps.base; right = ps.ruby; left = [] }) (places-alike form v w a.given)

-- and their records
word_two-alike : (form : Form) (v : Given) (f : Gloss) (w : Given) (g : Gloss) → AlikeBoth form v f w g → has_left f.kind ≡ true → word_two form v f ≡ word_two form w g
unfolding word_two two_by jukugos_by
word_two-alike form.P v f w g a h = let b = a.given.width in cc
word_two-alike form.M v f w g a h = let e = a.given.em in let t = a.given.ratios in let b = a.given.width in let r = a.given.ruby_width in let l = a.width in cc
word_two-alike form.G v f w g a h =
    let e = a.given.em in let t = a.given.ratios in let b = a.given.width in let r = a.given.ruby_width in let c = a.given.class in let d = a.given.ruby_class in let l = a.width in let k = a.class in cc
word_two-alike form.J v f w g a h = by_kind (is_group f.kind) refl ∙ ap (λ (t : Bool). cond t grouped run-by-run) (ap is_group a.kind)
  where
    grouped : Word
    grouped = groups_word (script w.ruby_class) (script g.class) Kana w.ratios w.em (str_of w.width) (str_of w.ruby_width) (str_of g.width)

    run-by-run : Word
    run-by-run = jukugos_word (script w.ruby_class) (script g.class) w.ratios w.em w.width w.run w.ruby_width g.run g.width

    by_kind : (t : Bool) → is_group f.kind ≡ t →
        cond t (groups_word (script v.ruby_class) (script f.class) Kana v.ratios v.em (str_of v.width) (str_of v.ruby_width) (str_of f.width))
        (jukugos_word (script v.ruby_class) (script f.class) v.ratios v.em v.width v.run v.ruby_width f.run f.width)
        ≡ cond t grouped run-by-run
    by_kind true q =
        let e = a.given.em in let t = a.given.ratios in let b = a.given.width in let r = a.given.ruby_width in let d = a.given.ruby_class in let l = a.width in let k = a.class in cc
    by_kind false q =
        let e = a.given.em in let t = a.given.ratios in let b = a.given.width in let r = a.given.ruby_width in let d = a.given.ruby_class in let l = a.width in let k = a.class in
        let u = a.given.run refl in let x = a.run refl h q in cc

pub record_alike : (form : Form) (v : Given) (f : Gloss) (w : Given) (g : Gloss) → AlikeBoth form v f w g → word_of form v f ≡ word_of form w g
unfolding word_of
record_alike form v f w g a = go (has_left f.kind) refl ∙ ap (λ (t : Bool). cond t (word_two form w g) (one.word_of form w)) (ap has_left a.kind)
  where
    go : (t : Bool) → has_left f.kind ≡ t → cond t (word_two form v f) (one.word_of form v) ≡ cond t (word_two form w g) (one.word_of form w)
    go true h = word_two-alike form v f w g a h
    go false h = word-alike form v w a.given
