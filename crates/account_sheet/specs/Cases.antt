-- Whole accounts, computed from the bytes of a sheet: K9, K10 and K12 of document 01, a line that is too long, and a sheet that breaks its form.
use Rattle.std.specs.Prelude.{◌≡◌, refl}
use Rattle.line.specs.Setting.{origin, settle_from}
use Rattle.job.specs.Line.{line_of, origins}
use Rattle.account.specs.Reasons.{beside, neighbour, rubies, reason}
use Rattle.result.specs.Text.{bytes}
use Rattle.account_sheet.specs.Answer.{account_of_sheet}

-- two words with long readings side by side: the second ruby touches the first, so its word stands 10 half units off
pub k9 : account_of_sheet (bytes "set 2\n10\n50\nbase 2\n19 10 0 0 1\n19 10 0 0 1\nruby 6\n15 5\n15 5\n15 5\n15 5\n15 5\n15 5\nelem 2\nM 3\nM 3\n") ≡ bytes "clear lines 1 elements 2 readings 2\nline 60\nelement 0 at 5 gap 5 rule 4 ruby touches start\nelement 1 at 35 gap 10 rule 3 ruby touches ruby of 0\n"
unfolding account_of_sheet line_of origins settle_from origin beside neighbour rubies reason
k9 = refl

-- the same in form two (document 02, R-6), with the long readings on the left
pub k9-left : account_of_sheet (bytes "set 9\n10\n50\n1\n2\n1\n1\n2\n1\n0\nbase 2\n19 10 0 0 1\n19 10 0 0 1\nruby 2\n15 5\n15 5\nleft 6\n15 5\n15 5\n15 5\n15 5\n15 5\n15 5\nelem 2\nM 1 M 3\nM 1 M 3\n") ≡ bytes "clear lines 1 elements 2 readings 4\nline 60\nelement 0 at 5 gap 5 rule 4 left ruby touches start\nelement 1 at 35 gap 10 rule 3 left ruby touches left ruby of 0\n"
unfolding account_of_sheet line_of origins settle_from origin beside neighbour rubies reason
k9-left = refl

-- the comma has no blank before, so the first ruby keeps off it; its blank after has room for the second
pub k10 : account_of_sheet (bytes "set 2\n10\n50\nbase 3\n19 10 0 0 1\n7 10 0 5 1\n19 10 0 0 1\nruby 6\n15 5\n15 5\n15 5\n15 5\n15 5\n15 5\nelem 3\nM 3\nP\nM 3\n") ≡ bytes "clear lines 1 elements 3 readings 2\nline 75\nelement 0 at 5 gap 5 rule 4 ruby touches start\nelement 1 at 30 gap 5 rule 2 block touches ruby of 0 at depth 0\nelement 2 at 50 gap 0 rule 1 block touches block of 1\n"
unfolding account_of_sheet line_of origins settle_from origin beside neighbour rubies reason
k10 = refl

-- both rubies lie on the space, and the second touches the first
pub k12 : account_of_sheet (bytes "set 2\n10\n50\nbase 3\n19 10 0 0 1\n14 3 0 0 1\n19 10 0 0 1\nruby 6\n15 5\n15 5\n15 5\n15 5\n15 5\n15 5\nelem 3\nM 3\nP\nM 3\n") ≡ bytes "clear lines 1 elements 3 readings 2\nline 60\nelement 0 at 5 gap 5 rule 4 ruby touches start\nelement 1 at 25 gap 0 rule 1 block touches block of 0\nelement 2 at 35 gap 4 rule 3 ruby touches ruby of 0\n"
unfolding account_of_sheet line_of origins settle_from origin beside neighbour rubies reason
k12 = refl

-- three base characters that no break parts need 60 half units of 40
pub declined : account_of_sheet (bytes "set 2\n10\n20\nbase 5\n19 10 0 0 1\n19 10 0 0 1\n19 10 0 0 1\n19 10 0 0 1\n19 10 0 0 1\nruby 6\n15 5\n15 5\n15 5\n15 5\n15 5\n15 5\nelem 3\nP\nP\nG 3 6\n") ≡ bytes "refused 11 2\nneeds 60 measure 40\n"
unfolding account_of_sheet line_of origins settle_from origin beside neighbour rubies reason
declined = refl

pub empty : account_of_sheet (bytes "") ≡ bytes "refused 13 1\n"
unfolding account_of_sheet
empty = refl
