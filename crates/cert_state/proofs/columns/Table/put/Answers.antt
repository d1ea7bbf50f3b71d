use Rattle.cert_state.proofs.ColumnsLaws.{rows_put}
use Rattle.cert_state.proofs.columns.Table.put.Goals as goal

pub invariant_of-self : goal.invariant_of-self
invariant_of-self c =
    let t = c.args.self.now in
    record {
      rows = rows_put t.lits t.tags t.firsts t.seconds t.masks t.excluded c.args.row c.args.literal c.numbers_of-tag.result c.exclusion_of-mask.result
          c.numbers_of-tag.ensures c.exclusion_of-mask.ensures t.rows;
    }
