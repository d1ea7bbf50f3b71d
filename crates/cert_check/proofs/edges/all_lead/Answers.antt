use Rattle.std.proofs.Common.{◌≡◌, true, false, refl, [], ◌∷◌}
use Rattle.cert_form.specs.Views.{nodes_of}
use Rattle.cert_check.specs.Rules.{Leads}
use Rattle.cert_check.specs.inner.Ways.{edge_of}
use Rattle.cert_check.proofs.Elements.{all_one, all_two, all_none}
use Rattle.cert_check.proofs.edges.all_lead.Goals as goal

pub returns-in-One : goal.returns-in-One
returns-in-One c = rw c.in-One.is (all_one (Leads (nodes_of c.args.view.now) c.args.i) (edge_of c.in-One.way) c.leads.result c.leads.ensures)

pub returns-then-leads : goal.returns-then-leads
returns-then-leads c =
    rw c.in-Two.is (all_two (Leads (nodes_of c.args.view.now) c.args.i) (edge_of c.in-Two.first) (edge_of c.in-Two.second) c.leads-then-leads.result
    (c.if-leads.ensures.0 refl) c.leads-then-leads.ensures)

pub returns-else-leads : goal.returns-else-leads
returns-else-leads c =
    rw c.in-Two.is (all_none (Leads (nodes_of c.args.view.now) c.args.i) (edge_of c.in-Two.first) (edge_of c.in-Two.second
    ∷ []) c.leads-in-Two.result
    (λ t. cc) (λ l. let e : false ≡ true = c.if-leads.ensures.1 l in cc))
