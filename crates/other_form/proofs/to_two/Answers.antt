-- The parts and the lines with the letters on are the other sheet.
use Rattle.other_form.specs.Joined.{parts-ready, head-room, lines-room, both_wrote, two_ready, two-cutting, two-joined}
use Rattle.other_form.proofs.to_two.Goals as goal

pub cuts_of-cuts-requires : goal.cuts_of-cuts-requires
cuts_of-cuts-requires c = two_ready c.requires

pub put_parts-p-requires : goal.put_parts-p-requires
put_parts-p-requires c =
    let q = c.requires in
    let k = two-cutting q c.cuts_of-cuts.ensures in
    parts-ready k (head-room c.args.out.now (two-joined q k.rest) q.ready.room)

pub letters_on-requires : goal.letters_on-requires
letters_on-requires c =
    let q = c.requires in
    let k = two-cutting q c.cuts_of-cuts.ensures in
    record { within = k.within3; room = lines-room c.args.out.now (two-joined q k.rest) q.ready.room c.put_parts-p.ensures k.text }

pub returns : goal.returns
returns c =
    let q = c.requires in
    let k = two-cutting q c.cuts_of-cuts.ensures in
    both_wrote c.args.out.now (two-joined q k.rest) q.ready.room c.put_parts-p.ensures k.text c.letters_on.ensures
