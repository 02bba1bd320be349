-- Each test that holds picks the reason's text; where none does it is that of a left ruby.
use mathlib.Core.Path.{◌≡◌}
use Prim.Native.Nat.{◌-◌}
use native.Mathlib.Omega.{arith}
use Rattle.result.specs.Text.{bytes}
use Rattle.account_text.specs.Text.{said, ruby_text, reason_text}
use Rattle.account_text.specs.Reason as reason
use Rattle.account_text.proofs.put_reason.Goals as goal
use Rattle.account_text.proofs.put_reason.Goals.{Else-reason-le6, Then-reason-eq1, Then-reason-eq2, Then-reason-le6}

start_is : (c : Then-reason-eq1) → let a = c.args in reason_text a.reason a.other a.depth ≡ bytes " rule 4 block touches start"
start_is c = let a = c.args in reason.at_start a.reason a.other a.depth c.if-reason-eq1.true

block-is : (c : Then-reason-eq2) → let a = c.args in reason_text a.reason a.other a.depth ≡ said (bytes " rule 1 block touches block of ") a.other
block-is c = let a = c.args in reason.by-block a.reason a.other a.depth c.if-reason-eq2.true

right_is : (c : Then-reason-le6) → let a = c.args in reason_text a.reason a.other a.depth ≡ ruby_text (bytes "ruby") a.reason a.other a.depth
right_is c =
    let a = c.args in
    reason.by_right a.reason a.other a.depth c.if-reason-eq1.false c.if-reason-eq2.false c.if-reason-le6.true

left_is : (c : Else-reason-le6) → let a = c.args in
    reason_text a.reason a.other a.depth ≡ ruby_text (bytes "left ruby") (a.reason - 4) a.other a.depth
left_is c =
    let a = c.args in
    reason.by_left a.reason a.other a.depth c.if-reason-eq1.false c.if-reason-eq2.false c.if-reason-le6.false

pub put_word-requires : goal.put_word-requires
put_word-requires c = omega (arith, rw (start_is (goal.at.put_word-requires c).Then-reason-eq1) at c.requires)

pub returns-then-reason-eq1 : goal.returns-then-reason-eq1
returns-then-reason-eq1 c = rw (start_is (goal.at.returns-then-reason-eq1 c).Then-reason-eq1) c.put_word.ensures

pub put_said-requires : goal.put_said-requires
put_said-requires c = rw (← block-is (goal.at.put_said-requires c).Then-reason-eq2) c.requires

pub returns-then-reason-eq2 : goal.returns-then-reason-eq2
returns-then-reason-eq2 c = rw (block-is (goal.at.returns-then-reason-eq2 c).Then-reason-eq2) c.put_said.ensures

pub put_ruby-requires : goal.put_ruby-requires
put_ruby-requires c = rw (← right_is (goal.at.put_ruby-requires c).Then-reason-le6) c.requires

pub returns-then-reason-le6 : goal.returns-then-reason-le6
returns-then-reason-le6 c = rw (right_is (goal.at.returns-then-reason-le6 c).Then-reason-le6) c.put_ruby.ensures

pub put_ruby-requires-2 : goal.put_ruby-requires-2
put_ruby-requires-2 c = rw (← left_is (goal.at.put_ruby-requires-2 c).Else-reason-le6) c.requires

pub returns : goal.returns
returns c = rw (left_is (goal.at.returns c).Else-reason-le6) c.put_ruby-2.ensures
