use Rattle.std.proofs.Common.{sym, inl, inr}
use Rattle.strace_logs.proofs.judging.is_named.Goals as goal

pub returns-then-is_listed : goal.returns-then-is_listed
returns-then-is_listed c = λ native texts all it_is. record {
  name = c.in-Some.name.now;
  has = sym c.in-Some.ensures;
  why = inr (sym c.if-is_listed.ensures);
}

pub returns : goal.returns
returns c = λ native texts all it_is. record {
  name = c.in-Some.name.now;
  has = sym c.in-Some.ensures;
  why = inl (c.is_of_record.ensures native texts all it_is);
}
