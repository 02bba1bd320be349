-- Whole answers, computed from the bytes of a sheet: the worked example of document 01, and sheets that are refused in the reading and after it.
use Rattle.std.specs.Prelude.{◌≡◌, refl}
use Rattle.result.specs.Text.{bytes}
use Rattle.setter.specs.Answer.{answer_text}

pub worked : answer_text (bytes "set 2\n10\n35\nbase 4\n19 10 0 0 1\n15 10 0 0 1\n19 10 0 0 1\n19 10 0 0 1\nruby 6\n15 5\n15 5\n15 5\n15 5\n15 5\n15 5\nelem 3\nM 3\nP\nJ 2 1 2\n") ≡
    bytes "lines 2\nline 70\nb 0 5\nr 0 0\nr 1 10\nr 2 20\nb 1 30\nb 2 50\nr 3 55\nline 20\nb 3 0\nr 4 0\nr 5 10\n"
unfolding answer_text
worked = refl

-- "zero elements give zero lines"
pub nothing : answer_text (bytes "set 2\n10\n35\nbase 0\nruby 0\nelem 0\n") ≡ bytes "lines 0\n"
unfolding answer_text
nothing = refl

-- an empty file: "a missing line has the next line's number"
pub empty : answer_text (bytes "") ≡ bytes "refused 13 1\n"
unfolding answer_text
empty = refl

-- a fault of form late in the sheet is given ahead of an odd em
pub form-first : answer_text (bytes "set 2\n11\n35\nbase 0\nruby 0\nelem 1\nX\n") ≡ bytes "refused 13 7\n"
unfolding answer_text
form-first = refl

-- and where the form is kept the odd em is given
pub odd_em : answer_text (bytes "set 2\n11\n35\nbase 0\nruby 0\nelem 0\n") ≡ bytes "refused 1 0\n"
unfolding answer_text
odd_em = refl

-- The same sheets in form two (document 02, R-6): the worked example without left readings is set alike, and a left reading is set beside the right one.
pub worked-two : answer_text (bytes "set 9\n10\n35\n1\n2\n1\n1\n2\n1\n0\nbase 4\n19 10 0 0 1\n15 10 0 0 1\n19 10 0 0 1\n19 10 0 0 1\nruby 6\n15 5\n15 5\n15 5\n15 5\n15 5\n15 5\nleft 0\nelem 3\nM 3 N\nP\nJ 2 1 2 N\n") ≡
    bytes "lines 2\nline 70\nb 0 5\nr 0 0\nr 1 10\nr 2 20\nb 1 30\nb 2 50\nr 3 55\nline 20\nb 3 0\nr 4 0\nr 5 10\n"
unfolding answer_text
worked-two = refl

pub left-read : answer_text (bytes "set 9\n10\n35\n1\n2\n1\n1\n2\n1\n0\nbase 1\n19 10 0 0 1\nruby 3\n15 5\n15 5\n15 5\nleft 1\n15 5\nelem 1\nM 3 M 1\n") ≡ bytes "lines 1\nline 30\nb 0 5\nr 0 0\nr 1 10\nr 2 20\nl 0 10\n"
unfolding answer_text
left-read = refl

-- 15, a number of a ratio over 7; 20, a profile over 1; 16, a left kind that the element does not take
pub bad_ratio : answer_text (bytes "set 9\n10\n35\n1\n2\n1\n1\n8\n1\n0\nbase 0\nruby 0\nleft 0\nelem 0\n") ≡ bytes "refused 15 1\n"
unfolding answer_text
bad_ratio = refl

pub bad_profile : answer_text (bytes "set 9\n10\n35\n1\n2\n1\n1\n2\n1\n2\nbase 0\nruby 0\nleft 0\nelem 0\n") ≡ bytes "refused 20 0\n"
unfolding answer_text
bad_profile = refl

pub bad_left : answer_text (bytes "set 9\n10\n35\n1\n2\n1\n1\n2\n1\n0\nbase 1\n19 10 0 0 1\nruby 1\n15 5\nleft 1\n15 5\nelem 1\nM 1 J 1\n") ≡ bytes "refused 16 0\n"
unfolding answer_text
bad_left = refl
