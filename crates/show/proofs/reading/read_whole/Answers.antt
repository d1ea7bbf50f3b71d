use Rattle.std.proofs.Common.{List, ℕ, inl, subst, ◌++◌}
use Rattle.std.specs.Prelude.{string_bytes}
use Rattle.wording.specs.Told.{TellsText}
use Rattle.show.specs.Read.{IsRead, bundle_text}
use Rattle.wording.proofs.Results.{if_ok_weaker}
use Rattle.show.proofs.reading.read_whole.Goals as goal

pub returns-in-Ok : goal.returns-in-Ok
returns-in-Ok c =
    let read = c.in-Ok.read.now in
    let ok = c.in-Ok.ensures.ok in
    let own = bundle_text read.profile read.by_entry.rules.items read.by_entry.ends.items in
    if_ok_weaker (TellsText (string_bytes c.new.result ++ own)) (IsRead c.args.document.now.native c.args.document.now.bytes)
    (λ told tells. inl (record {
      policy = read.profile;
      rules = read.by_entry.rules.items;
      ends = read.by_entry.ends.items;
      read = record { t = ok.0; is_text = ok.1; means = ok.2; are = c.in-Ok.ensures.rules };
      tells = subst (λ (s : List ℕ). TellsText (s ++ own) told) c.new.ensures.bytes tells;
    }))
    c.meaning_of.result c.meaning_of.ensures
