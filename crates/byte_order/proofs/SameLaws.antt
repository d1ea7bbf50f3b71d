-- Filters that are turned mean the same.
use Rattle.std.proofs.Common.{◌≡◌, ℕ, true, List, length, cond, refl, ap, sym, ◌∙◌, subst}
use Rattle.std.specs.Prelude.{map, ◌↔◌}
use Rattle.std.proofs.lemmas.Bool.{cond-true}
use Rattle.call_record.specs.Words.{FieldsFit, words_from}
use Rattle.bpf_insn.specs.declared.instruction.Insn.{Insn}
use Rattle.bpf_insn.specs.Bytes.{AreBytes}
use Rattle.bpf_insn.specs.Bytes as little
use Rattle.bpf_insn.specs.Machine.{verdict_of}
use Rattle.kernel_check.specs.Accepted.{IsAccepted}
use Rattle.byte_order.specs.Big as big
use Rattle.byte_order.specs.Turned.{MeanTheSame, MeansAsRead, MeansAsWritten, are_whole, big_filter, little_filter, other_half}
use Rattle.byte_order.proofs.AcceptLaws.{same_accepted}
use Rattle.byte_order.proofs.BytesLaws.{big_written, little_read}
use Rattle.byte_order.proofs.HalfLaws.{twice_all}
use Rattle.byte_order.proofs.RunLaws.{same_verdict}

turned_same : (p : List Insn) → MeanTheSame p (map other_half p)
turned_same p = record {
  accepted = same_accepted p;
  verdicts = λ nr arch ip args fit. same_verdict nr arch ip args fit.six_args p;
}

pub read_same : (file : List ℕ) → AreBytes file → are_whole file ≡ true → MeansAsRead file
read_same file bytes whole =
    let is : little.insns_of (little_filter file) ≡ map other_half (big.insns_of file) =
    ap little.insns_of (cond-true (are_whole file) (little.spelling (map other_half (big.insns_of file))) file whole) ∙ little_read file bytes in
    subst (MeanTheSame (big.insns_of file)) (sym is) (turned_same (big.insns_of file))

pub written_same : (filter : List ℕ) → AreBytes filter → are_whole filter ≡ true → MeansAsWritten filter
written_same filter bytes whole =
    let p : List Insn = little.insns_of filter in
    let is : big.insns_of (big_filter filter) ≡ map other_half p =
    ap big.insns_of (cond-true (are_whole filter) (big.spelling (map other_half p)) filter whole) ∙ big_written filter bytes in
    subst (λ own. MeanTheSame own p) (sym is)
    (subst (MeanTheSame (map other_half p)) (twice_all p) (turned_same (map other_half p)))
