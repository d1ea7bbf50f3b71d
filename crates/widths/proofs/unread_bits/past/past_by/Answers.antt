use Rattle.std.proofs.Common.{refl, sym, ◌∙◌}
use Rattle.call_record.specs.Record.{words}
use Rattle.widths.proofs.unread_bits.past.past_by.Goals as goal

pub returns-clause-past : goal.returns-clause-past
returns-clause-past c = record {
  is_unlike = record {
    cleared = c.cleared-cleared.ensures;
    alike = c.cleared_is_alike.ensures (words c.args.call.now) (words c.cleared-cleared.result) c.cleared-cleared.ensures;
    says = c.said-word.ensures.says;
    says_cleared = c.said-cleared_word.ensures.says;
    unlike = sym c.tells.ensures ∙ c.if-not-tells.false;
  };
  machine = refl;
  number = refl;
}
