use Rattle.std.proofs.Common.{◌-◌, length}
use Rattle.std.specs.String.{string_bytes}
use Rattle.machines.specs.Arch.{family_of}
use Rattle.aside.proofs.RecoveredLaws.{lines_told}
use Rattle.aside.proofs.recovered.told.recover_told.Goals as goal

pub returns : goal.returns
returns c =
    let behind = c.in_ok-behind.behind in
    let but = c.in_ok-bundle.field-0.but in
    record {
      rest = behind.rest.now;
      answered = behind.answered.items;
      behind = c.in_ok-behind.ensures.is;
      asked = c.in_ok-behind.ensures.asked;
      whole = but.judged.whole;
      aside = but.aside.items;
      recovered = c.in_ok-bundle.ensures.recovered;
      told = lines_told c.family.result (family_of c.args.native) c.family.ensures c.args.runc
          (length c.args.filter.now - length behind.rest.now) behind.answered.items but.judged.whole but.aside.items c.deref.result.now
          c.deref.ensures.value (string_bytes c.in_ok-lines.lines) c.in_ok-lines.ensures;
    }
