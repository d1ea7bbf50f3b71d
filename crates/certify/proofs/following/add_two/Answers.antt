use Rattle.certify.proofs.GrowLaws.{place_more}
use Rattle.certify.proofs.following.add_two.Goals as goal

pub add-requires-2-clause-from : goal.add-requires-2-clause-from
add-requires-2-clause-from c =
    place_more c.args.paths.now.entries.items c.add.new.self.entries.items c.args.from c.in_ok-first.ensures.added.entries c.requires.from
