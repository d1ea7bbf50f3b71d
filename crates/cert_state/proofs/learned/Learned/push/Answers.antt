use Rattle.std.proofs.Common.{◌≡◌, ◌<◌, ap, sym, ◌∙◌, arith, length, map, get_or, set, ◌++◌, ◌∷◌, [], is_ok, if◌then◌else◌}
use Rattle.cert_state.specs.Literals.{index_of}
use Rattle.cert_state.specs.Learned.{lits_of, own_of}
use Rattle.cert_state.proofs.LearnedLaws.{read_at, stays_at, written_at}
use Rattle.cert_state.proofs.learned.Learned.push.Goals as goal

pub returns-clause-own : goal.returns-clause-own
unfolding own_of
returns-clause-own c =
    let items = c.args.self.now.words.items in
    let at = c.word.result in
    let is = sym c.word.ensures in
    let room : at < length items = omega (arith, c.requires, c.word.ensures, c.args.self.now.sixteen) in
    let old : get_or (map lits_of items) (index_of c.args.literal) [] ≡ lits_of c.index_mut.result.now =
    ap (λ n. get_or (map lits_of items) n []) is ∙ read_at items at c.index_mut.result.now room c.index_mut.ensures.value in
    ap (λ n. get_or (map lits_of (set items at c.push.new.self)) n []) is
    ∙ written_at items at c.push.new.self room
    ∙ c.push.ensures.lits
    ∙ ap (λ ls. if is_ok c.push.result then ls ++ c.args.literal ∷ [] else ls) (sym old)

pub returns-clause-others : goal.returns-clause-others
unfolding own_of
returns-clause-others c = λ w ne.
    stays_at c.args.self.now.words.items c.word.result w c.push.new.self (λ e. ne (e ∙ c.word.ensures))
