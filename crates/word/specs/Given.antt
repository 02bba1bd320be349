-- What is given of a word (document 01, "The job"): em, the house ratios (R-4), and its own characters, each field in a list of its own. Nothing else reaches level
-- one, and of runs a J's alone are read: what stands in their place of another form alters nothing (`Alike`, `places-alike` of Theorems).
use Rattle.std.specs.Prelude.{Bool, true, false, List, ℕ}
use Rattle.spread.specs.Ratio.{Ratios}
use Rattle.word.specs.declared.Form.{Form}
use Rattle.word.specs.declared.Form.TheVariants.{P, M, G, J}

-- base characters: class, width, blank before and after; ruby characters: class and width; runs, by their counts of ruby characters
pub record Given : Type 0 where
  pub em : ℕ
  pub ratios : Ratios
  pub class : List ℕ
  pub width : List ℕ
  pub before : List ℕ
  pub after : List ℕ
  pub ruby_class : List ℕ
  pub ruby_width : List ℕ
  pub run : List ℕ

abbrev pub has_ruby : Form → Bool
has_ruby P = false
has_ruby M = true
has_ruby G = true
has_ruby J = true

abbrev pub is_g : Form → Bool
is_g P = false
is_g M = false
is_g G = true
is_g J = false

abbrev pub is_j : Form → Bool
is_j P = false
is_j M = false
is_j G = false
is_j J = true
