use Rattle.std.proofs.Common.{◌≡◌, ℕ, arith, subst}
use Rattle.call_tables.specs.Tables.{table_of}
use Rattle.call_tables.specs.Table.{name_in}
use Rattle.call_words.specs.Near.{IsLeast}
use Rattle.call_words.specs.Wrong.{native_numbers}
use Rattle.call_words.proofs.nearest.least_of_all.Goals as goal

pub returns : goal.returns
returns c =
    let all : c.loop-number.number ≡ native_numbers = omega (arith, c.loop-number-test.false, c.loop-number.auto.number-end) in
    subst (λ (n : ℕ). IsLeast (name_in (table_of c.args.native)) n c.args.word.now c.loop-number.least) all c.loop-number.invariant
