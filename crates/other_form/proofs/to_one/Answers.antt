-- The parts and the lines with the letters off are the other sheet.
use Rattle.other_form.specs.Joined.{parts-ready, head-room, lines-room, both_wrote, one-ready, one-cutting, one-joined}
use Rattle.other_form.proofs.to_one.Goals as goal

pub cuts_of-cuts-requires : goal.cuts_of-cuts-requires
cuts_of-cuts-requires c = one-ready c.requires

pub put_parts-p-requires : goal.put_parts-p-requires
put_parts-p-requires c =
    let q = c.requires in
    let k = one-cutting q c.cuts_of-cuts.ensures in
    parts-ready k (head-room c.args.out.now (one-joined q k.rest) q.ready.room)

pub letters_off-requires : goal.letters_off-requires
letters_off-requires c =
    let q = c.requires in
    let k = one-cutting q c.cuts_of-cuts.ensures in
    record { within = k.within3; room = lines-room c.args.out.now (one-joined q k.rest) q.ready.room c.put_parts-p.ensures k.text }

pub returns : goal.returns
returns c =
    let q = c.requires in
    let k = one-cutting q c.cuts_of-cuts.ensures in
    both_wrote c.args.out.now (one-joined q k.rest) q.ready.room c.put_parts-p.ensures k.text c.letters_off.ensures
