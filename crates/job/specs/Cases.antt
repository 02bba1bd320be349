-- K1 to K12 of document 01 ("Settings on both sides of each edge") and the job of its sheet, as one list of jobs: "Em 10, base 10 wide, ruby 5 wide, kana-like." Then what R-1, R-5
-- and R-9 of document 02 add, worked out by hand. The one claim over `outcome` is `all-cases` in `proofs/Cases.antt`, and all are computed.
use Rattle.std.specs.Prelude.{List, [], ◌∷◌, ◌++◌, map, ℕ, ◌+◌, ◌-◌, length, replicate}
use Rattle.spread.specs.Ratio.{usual}
use Rattle.basics.specs.Lists.{sum, each}
use Rattle.door.specs.Job.{Job}
use Rattle.job.specs.declared.Answer.TheVariants.{Set}
use Rattle.job.specs.Outcome.{Outcome, outcome}
use Rattle.job.specs.Correction.{Line}

-- an element with its base characters, which are alike; kinds are the sheet's letters
pub record Entry : Type 0 where
  pub class : ℕ
  pub width : ℕ
  pub after : ℕ
  pub kind : ℕ
  pub bases : ℕ
  pub rubies : ℕ
  pub runs : List ℕ
  pub gloss : ℕ
  pub lefts : ℕ
  pub left_runs : List ℕ

-- a P by its class, its width and its blank after
abbrev pub P : ℕ → ℕ → ℕ → Entry
P c w a = record { class = c; width = w; after = a; kind = 80; bases = 1; rubies = 0; runs = []; gloss = 78; lefts = 0; left_runs = [] }

abbrev pub word : ℕ → ℕ → ℕ → List ℕ → Entry
word kind b r runs = record { class = 19; width = 10; after = 0; kind = kind; bases = b; rubies = r; runs = runs; gloss = 78; lefts = 0; left_runs = [] }

-- an M by its ruby count, a G by its base count and its ruby count, a J by its runs
abbrev pub M : ℕ → Entry
M r = word 77 1 r []

abbrev pub G : ℕ → ℕ → Entry
G b r = word 71 b r []

abbrev pub J : List ℕ → Entry
J runs = word 74 (length runs) (sum runs) runs

-- with a left reading of so many characters, mono on an M or group on a G or a J; or by runs, mono or jukugo on a J
abbrev pub under : Entry → ℕ → ℕ → List ℕ → Entry
under e kind l runs =
    record {
      class = e.class;
      width = e.width;
      after = e.after;
      kind = e.kind;
      bases = e.bases;
      rubies = e.rubies;
      runs = e.runs;
      gloss = kind;
      lefts = l;
      left_runs = runs;
    }

abbrev pub mono : ℕ → Entry → Entry
mono l e = under e 77 l []

abbrev pub group : ℕ → Entry → Entry
group l e = under e 71 l []

abbrev pub monos : List ℕ → Entry → Entry
monos runs e = under e 77 0 runs

abbrev pub jukugo : List ℕ → Entry → Entry
jukugo runs e = under e 74 0 runs

abbrev pub one : ℕ → List ℕ
one n = n ∷ []

-- an entry for each base character
abbrev pub per_base : (Entry → ℕ) → List Entry → List ℕ
per_base f es = each (λ e. replicate e.bases (f e)) es

-- a job by its measure, the flag of the base characters that are not their element's last, and its elements
abbrev pub job_of : ℕ → ℕ → List Entry → Job
job_of measure inner es =
    let rubies = sum (map (λ e. e.rubies) es) in
    let lefts = sum (map (λ e. e.lefts + sum e.left_runs) es) in
    record {
      em = 10;
      measure = measure;
      ratios = usual;
      profile = 0;
      class = per_base (λ e. e.class) es;
      width = per_base (λ e. e.width) es;
      before = per_base (λ e. 0) es;
      after = per_base (λ e. e.after) es;
      flag = each (λ e. replicate (e.bases - 1) inner ++ one 1) es;
      ruby_class = replicate rubies 15;
      ruby_width = replicate rubies 5;
      left_class = replicate lefts 15;
      left_width = replicate lefts 5;
      kind = map (λ e. e.kind) es;
      element_base = map (λ e. e.bases) es;
      element_ruby = map (λ e. e.rubies) es;
      left_kind = map (λ e. e.gloss) es;
      element_left = map (λ e. e.lefts) es;
      run = each (λ e. e.runs) es;
      left_run = each (λ e. e.left_runs) es;
    }

-- a job, and where the paper has its base characters, its ruby characters, its left characters and its lines' ends
pub record Case : Type 0 where
  pub measure : ℕ
  pub inner : ℕ
  pub entries : List Entry
  pub base : List ℕ
  pub ruby : List ℕ
  pub left : List ℕ
  pub lines : List ℕ

-- all in one line, with left characters or without
abbrev pub both : List Entry → List ℕ → List ℕ → List ℕ → Case
both es base ruby left = record { measure = 1000; inner = 1; entries = es; base = base; ruby = ruby; left = left; lines = one (length base) }

abbrev pub wide : List Entry → List ℕ → List ℕ → Case
wide es base ruby = both es base ruby []

unfoldable pub cases : List Case
cases =
    -- K1 "M, 3 ruby: base 5; ruby 0, 10, 20"
    wide (M 3 ∷ []) (5 ∷ []) (0 ∷ 10 ∷ 20 ∷ [])
    -- K2 "G, 3 base, 2 ruby: ruby 10, 40"
    ∷ wide (G 3 2 ∷ []) (0 ∷ 20 ∷ 40 ∷ []) (10 ∷ 40 ∷ [])
    -- K3 "G, 5 base, 2 ruby: ruby 10, 80"
    ∷ wide (G 5 2 ∷ []) (0 ∷ 20 ∷ 40 ∷ 60 ∷ 80 ∷ []) (10 ∷ 80 ∷ [])
    -- K4 "G, 2 base, 7 ruby: base 7, 43"
    ∷ wide (G 2 7 ∷ []) (7 ∷ 43 ∷ []) (0 ∷ 10 ∷ 20 ∷ 30 ∷ 40 ∷ 50 ∷ 60 ∷ [])
    -- K5 "G, 3 base, 8 ruby: base 3, 30, 57"
    ∷ wide (G 3 8 ∷ []) (3 ∷ 30 ∷ 57 ∷ []) (0 ∷ 10 ∷ 20 ∷ 30 ∷ 40 ∷ 50 ∷ 60 ∷ 70 ∷ [])
    -- K6 "G, 4 base, 1 ruby: ruby 35"
    ∷ wide (G 4 1 ∷ []) (0 ∷ 20 ∷ 40 ∷ 60 ∷ []) (35 ∷ [])
    -- K7 "J, runs 1 and 2: ruby 5, 20, 30"
    ∷ wide (J (1 ∷ 2 ∷ []) ∷ []) (0 ∷ 20 ∷ []) (5 ∷ 20 ∷ 30 ∷ [])
    -- K8 "J, runs 1 and 3: ruby 0, 10, 20, 30"
    ∷ wide (J (1 ∷ 3 ∷ []) ∷ []) (0 ∷ 20 ∷ []) (0 ∷ 10 ∷ 20 ∷ 30 ∷ [])
    -- K9 "two K1 words side by side: second base at 35, not 30"
    ∷ wide (M 3 ∷ M 3 ∷ []) (5 ∷ 35 ∷ []) (0 ∷ 10 ∷ 20 ∷ 30 ∷ 40 ∷ 50 ∷ [])
    -- K10 "K1, class 7 with blank after 5, K1: comma 30, base 50, its ruby from 45"
    ∷ wide (M 3 ∷ P 7 10 5 ∷ M 3 ∷ []) (5 ∷ 30 ∷ 50 ∷ []) (0 ∷ 10 ∷ 20 ∷ 45 ∷ 55 ∷ 65 ∷ [])
    -- K11 "the same comma 7 wide with blank 2: comma 30, base 45"
    ∷ wide (M 3 ∷ P 7 7 2 ∷ M 3 ∷ []) (5 ∷ 30 ∷ 45 ∷ []) (0 ∷ 10 ∷ 20 ∷ 40 ∷ 50 ∷ 60 ∷ [])
    -- K12 "K1, class 14 of width 3, K1: space 25, base 35, not 31"
    ∷ wide (M 3 ∷ P 14 3 0 ∷ M 3 ∷ []) (5 ∷ 25 ∷ 35 ∷ []) (0 ∷ 10 ∷ 20 ∷ 30 ∷ 40 ∷ 50 ∷ [])
    -- the job sheet's example: "lines 2", and the J is cut between its two base characters
    ∷ record {
      measure = 35;
      inner = 1;
      entries = M 3 ∷ P 15 10 0 ∷ J (1 ∷ 2 ∷ []) ∷ [];
      base = 5 ∷ 30 ∷ 50 ∷ 0 ∷ [];
      ruby = 0 ∷ 10 ∷ 20 ∷ 55 ∷ 0 ∷ 10 ∷ [];
      left = [];
      lines = 3 ∷ 4 ∷ [];
    }
    ∷ []

-- the lists before: one entry more than is needed, all 9
abbrev pub nines : List ℕ → List ℕ
nines xs = replicate (length xs + 1) 9

unfoldable pub got : Case → Outcome
unfolding outcome
got c = outcome (job_of c.measure c.inner c.entries) (nines c.base) (nines c.ruby) (nines c.left) (nines c.base)

-- the paper's numbers, and the entries past those used as they were
unfoldable pub wanted : Case → Outcome
wanted c =
    record {
      answer = Set (length c.lines);
      base = c.base ++ one 9;
      ruby = c.ruby ++ one 9;
      left = c.left ++ one 9;
      lines = c.lines ++ replicate (length c.base + 1 - length c.lines) 9;
    }

-- The opening indent (document 02, R-1), worked out by hand. A space 10 wide has its block from 0 up to 20, and K1's ruby begins 5 ahead of its base.
unfoldable pub openings : List Case
openings =
    -- "a class 14 character that is the job's first element takes no ruby at all": the ruby begins where the space ends
    wide (P 14 10 0 ∷ M 3 ∷ []) (0 ∷ 25 ∷ []) (20 ∷ 30 ∷ 40 ∷ [])
    -- of two spaces only the first is the first element: the ruby lies on the second
    ∷ wide (P 14 10 0 ∷ P 14 10 0 ∷ M 3 ∷ []) (0 ∷ 20 ∷ 40 ∷ []) (35 ∷ 45 ∷ 55 ∷ [])
    -- "A class 14 character at the start of a later line is as before."
    ∷ record {
      measure = 23;
      inner = 1;
      entries = P 15 20 0 ∷ P 14 10 0 ∷ M 3 ∷ [];
      base = 0 ∷ 0 ∷ 20 ∷ [];
      ruby = 15 ∷ 25 ∷ 35 ∷ [];
      left = [];
      lines = 1 ∷ 3 ∷ [];
    }
    ∷ []

-- Readings on both sides (document 02, R-5), worked out by hand: left characters are 5 wide as well. Where three strings are centred on the longest, of T units, each starts at
-- T less its own length, in half units.
unfoldable pub glosses : List Case
glosses =
    -- "Mono with mono is solid and centred on both sides." Base 10, right 5, left 15: base at 15 - 10, right at 15 - 5, left at 0 and solid, up to 30. "Clearance rule 2 holds for each
    -- ruby": the kana behind starts at 30, though the base ends at 25.
    both (mono 3 (M 1) ∷ P 15 10 0 ∷ []) (5 ∷ 30 ∷ []) (10 ∷ []) (0 ∷ 10 ∷ 20 ∷ [])
    -- "if neither reading is longer than the base, each is set as a group alone": the right one is K2's; the left one has 5 of 30, so D = 25, and a single character starts at D
    ∷ both (group 1 (G 3 2) ∷ []) (0 ∷ 20 ∷ 40 ∷ []) (10 ∷ 40 ∷ []) (25 ∷ [])
    -- "Otherwise the longer reading is set with the base by document 01": the right one, 35 over 20, as K4; "the other is then set as a shorter or equal ruby over a base of the longer
    -- one's length": 10 over 35, D = 25, g = min(floor(25 / 2), 10) = 10, and the second character at 10 + 10 + (50 - 20)
    ∷ both (group 2 (G 2 7) ∷ []) (7 ∷ 43 ∷ []) (0 ∷ 10 ∷ 20 ∷ 30 ∷ 40 ∷ 50 ∷ 60 ∷ []) (10 ∷ 50 ∷ [])
    -- so it may pass the base, which stands from 7 to 63: 30 over 35, D = 5, g = floor(5 / 6) = 0, character i at 10 i + floor(10 i / 5)
    ∷ both (group 6 (G 2 7) ∷ []) (7 ∷ 43 ∷ []) (0 ∷ 10 ∷ 20 ∷ 30 ∷ 40 ∷ 50 ∷ 60 ∷ []) (0 ∷ 12 ∷ 24 ∷ 36 ∷ 48 ∷ 60 ∷ [])
    -- the left one is the longer, 40 over 30, and spreads the base as K5's ruby does; the right one, 5 over 40, is a single character at D = 35
    ∷ both (group 8 (G 3 1) ∷ []) (3 ∷ 30 ∷ 57 ∷ []) (35 ∷ []) (0 ∷ 10 ∷ 20 ∷ 30 ∷ 40 ∷ 50 ∷ 60 ∷ 70 ∷ [])
    -- "a J with a mono left reading is set as one such M for each character, each an element to the clearance rules": the first is 10 over 5 and 5, with both at 5. The second is as the
    -- first case's M; its left reading keeps off the first's base and starts at 20, so its base is at 25 and its right character at 30. As a word of 20 over 10 and 20 it would have it at 20.
    ∷ both (monos (1 ∷ 3 ∷ []) (J (1 ∷ 1 ∷ [])) ∷ []) (0 ∷ 25 ∷ []) (5 ∷ 30 ∷ []) (5 ∷ 20 ∷ 30 ∷ 40 ∷ [])
    -- nor does a long run on the right make it a group: 10 over 15 and 5, base at 5, right at 0, left at 10, from 20 on
    ∷ both (monos (1 ∷ 1 ∷ []) (J (1 ∷ 3 ∷ [])) ∷ []) (0 ∷ 25 ∷ []) (5 ∷ 20 ∷ 30 ∷ 40 ∷ []) (5 ∷ 30 ∷ [])
    -- "every other J is cut as in document 01", whatever the flags within it: the first of these two ends at 50, past 40, and stands cut as its two characters alone
    ∷ record {
      measure = 20;
      inner = 0;
      entries = monos (1 ∷ 3 ∷ []) (J (1 ∷ 1 ∷ [])) ∷ [];
      base = 0 ∷ 5 ∷ [];
      ruby = 5 ∷ 10 ∷ [];
      left = 5 ∷ 0 ∷ 10 ∷ 20 ∷ [];
      lines = 1 ∷ 2 ∷ [];
    }
    -- a left J, and no run is longer than one em: each run over its own character, on both sides. 60 is past 50, so the line ends behind the second character. The first part is a J,
    -- runs 5 over 10 at 5, 10 over 10 at 20, and 10 over 10 at 0, 5 over 10 at 25; the second is one character, both readings at 5.
    ∷ record {
      measure = 25;
      inner = 0;
      entries = jukugo (2 ∷ 1 ∷ 1 ∷ []) (J (1 ∷ 2 ∷ 1 ∷ [])) ∷ [];
      base = 0 ∷ 20 ∷ 0 ∷ [];
      ruby = 5 ∷ 20 ∷ 30 ∷ 5 ∷ [];
      left = 0 ∷ 10 ∷ 25 ∷ 5 ∷ [];
      lines = 2 ∷ 3 ∷ [];
    }
    -- "A J with a left G .. is taken as group on both sides and isn't cut": P and J are 60 long, past 50, and P with the J's first character would be 40; the line ends behind the P. Both
    -- readings are 15 over 20: D = 5, g = floor(5 / 3) = 1, then 1 + 10 + floor(8 / 2) and 1 + 20 + 8.
    ∷ record {
      measure = 25;
      inner = 1;
      entries = P 15 10 0 ∷ group 3 (J (1 ∷ 2 ∷ [])) ∷ [];
      base = 0 ∷ 0 ∷ 20 ∷ [];
      ruby = 1 ∷ 15 ∷ 29 ∷ [];
      left = 1 ∷ 15 ∷ 29 ∷ [];
      lines = 1 ∷ 3 ∷ [];
    }
    -- "or with a left J and a run longer than one em on either side": the left run of 15. Right 10 over 20: D = 10, g = 5, then 5 + 10 + 10; left 20 over 20, solid.
    ∷ record {
      measure = 25;
      inner = 1;
      entries = P 15 10 0 ∷ jukugo (3 ∷ 1 ∷ []) (J (1 ∷ 1 ∷ [])) ∷ [];
      base = 0 ∷ 0 ∷ 20 ∷ [];
      ruby = 5 ∷ 25 ∷ [];
      left = 0 ∷ 10 ∷ 20 ∷ 30 ∷ [];
      lines = 1 ∷ 3 ∷ [];
    }
    -- "rule 3 for rubies of one side": the right reading of K1 ends at 30, and the second word's base starts there; the left reading of that word starts at 25, where K1's base ends. Were
    -- they of one side, the second word would stand from 30 on.
    ∷ both (mono 1 (M 3) ∷ mono 3 (M 1) ∷ []) (5 ∷ 30 ∷ []) (0 ∷ 10 ∷ 20 ∷ 35 ∷ []) (10 ∷ 25 ∷ 35 ∷ 45 ∷ [])
    -- two long left readings do hold each other, as K9's rubies do
    ∷ both (mono 3 (M 1) ∷ mono 3 (M 1) ∷ []) (5 ∷ 35 ∷ []) (10 ∷ 40 ∷ []) (0 ∷ 10 ∷ 20 ∷ 30 ∷ 40 ∷ 50 ∷ [])
    -- K12 with its second word's long reading on the left: both lie on the space, from 25 to 31, each 5 deep; and with both on the left, where it is as K12
    ∷ both (M 3 ∷ P 14 3 0 ∷ mono 3 (M 1) ∷ []) (5 ∷ 25 ∷ 31 ∷ []) (0 ∷ 10 ∷ 20 ∷ 36 ∷ []) (26 ∷ 36 ∷ 46 ∷ [])
    ∷ both (mono 3 (M 1) ∷ P 14 3 0 ∷ mono 3 (M 1) ∷ []) (5 ∷ 25 ∷ 35 ∷ []) (10 ∷ 40 ∷ []) (0 ∷ 10 ∷ 20 ∷ 30 ∷ 40 ∷ 50 ∷ [])
    ∷ []

-- One correction (document 02, R-9), worked out by hand: K12 with one K1 more behind it, and its first word exchanged for one with a single ruby character. The
-- space moves back by 5 and all after it by 9: the first element after it may move by another amount than the rest.
abbrev pub was : Case
was = wide (M 3 ∷ P 14 3 0 ∷ M 3 ∷ M 3 ∷ []) (5 ∷ 25 ∷ 35 ∷ 65 ∷ []) (0 ∷ 10 ∷ 20 ∷ 30 ∷ 40 ∷ 50 ∷ 60 ∷ 70 ∷ 80 ∷ [])

abbrev pub now : Case
now = wide (M 1 ∷ P 14 3 0 ∷ M 3 ∷ M 3 ∷ []) (0 ∷ 20 ∷ 26 ∷ 56 ∷ []) (5 ∷ 21 ∷ 31 ∷ 41 ∷ 51 ∷ 61 ∷ 71 ∷ [])

-- And that word exchanged for the J of `glosses` whose two characters are an element each, from 0 up to 50 with its base up to 45: the left reading lies 5 deep on the space, which
-- stands at 45; the ruby behind lies 5 deep on it too, from 46 on, as it is of the other side. All behind the J move by 25.
abbrev pub then : Case
then =
    both (monos (1 ∷ 3 ∷ []) (J (1 ∷ 1 ∷ [])) ∷ P 14 3 0 ∷ M 3 ∷ M 3 ∷ []) (0 ∷ 25 ∷ 45 ∷ 51 ∷ 81 ∷ []) (5 ∷ 30 ∷ 46 ∷ 56 ∷ 66 ∷ 76 ∷ 86 ∷ 96 ∷ []) (5 ∷ 20 ∷ 30 ∷ 40 ∷ [])

-- These jobs meet what the theorem asks: they differ in element 0, and the breaks of the one line are kept.
abbrev pub line_in : Case → Line
line_in c =
    record { job = job_of c.measure c.inner c.entries; base = nines c.base; ruby = nines c.ruby; left = nines c.left; lines = nines c.base; number = 0 }
