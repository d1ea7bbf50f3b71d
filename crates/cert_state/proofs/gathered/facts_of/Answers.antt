use Rattle.std.proofs.Common.{◌≡◌, refl, subst}
use Rattle.std.specs.Prelude.{bit_and}
use Rattle.std.proofs.lemmas.List.Elements.{All-contains}
use Rattle.cert_state.specs.declared.literal.Lit.TheVariants.{Bits, NotBits}
use Rattle.cert_state.specs.declared.gathered.Asked.TheVariants.{Free, Whole}
use Rattle.cert_state.specs.Points.{IsWithin}
use Rattle.cert_state.specs.inner.Gathered.{Holds}
use Rattle.cert_state.proofs.gathered.facts_of.Goals as goal

pub returns : goal.returns
returns g c =
    let known = g.S.State.known c.args.state.now in
    let w = c.args.word in
    let s = c.summarize-summary.result in
    record {
      range = c.ends_of-low.ensures.some;
      none = c.ends_of-low.ensures.none;
      mask = c.summarize-summary.ensures.mask;
      datum = c.summarize-summary.ensures.datum;
      whole = λ t m d has.
          (let one = All-contains (Holds (Whole s.mask s.datum) w) known (Bits w m d) (c.all_hold.ensures.0 t) has refl in
          record {
            within = subst (IsWithin m) c.summarize-summary.ensures.mask one.0;
            datum = subst (λ n. bit_and n m ≡ d) c.summarize-summary.ensures.datum one.1;
          });
      free = λ t m d has. All-contains (Holds Free w) known (NotBits w m d) (c.all_hold-free.ensures.0 t) has refl;
      exact = c.are_exact.ensures;
    }
