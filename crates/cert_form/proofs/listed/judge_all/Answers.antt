use Rattle.std.proofs.Common.{◌≡◌, ◌+◌, ◌<◌, ◌≤◌, ℕ, List, [], ◌∷◌, ◌++◌, length, ap, sym, subst, ◌∙◌, inl, inr, arith}
use Rattle.std.specs.Prelude.{◌⊎◌, slice_index}
use Rattle.std.proofs.lemmas.Bool.{cases_lt}
use Rattle.std.proofs.lemmas.List.{length_push, get_or_push, get_or_append_left}
use Rattle.std.proofs.lemmas.Result.{err_from_is_err_and}
use Rattle.cert_form.specs.Reading.{place_of, node_count, node_end}
use Rattle.cert_form.specs.inner.Standing.{IsListedThere, AreListedThere}
use Rattle.cert_form.proofs.PlaceLaws.{next_place, first_listed, listed_faulty}
use Rattle.cert_form.proofs.listed.judge_all.Goals as goal

none_yet : (bytes own : List ℕ) → own ≡ [] → AreListedThere bytes own 0
none_yet bytes own e = record {
  nodes = λ i less. absurd (omega (arith, less));
  counted = ap length e;
  places =
      λ i less. absurd (omega (arith, less));
}

pub loop-init : goal.loop-init
loop-init c = record {
  sound = none_yet c.args.bytes.now c.new-own.result.items c.new-own.ensures.items;
  place = sym (first_listed c.args.bytes.now c.requires.form);
  room = c.requires.there;
}

pub returns-in_err-at-clause-fault : goal.returns-in_err-at-clause-fault
returns-in_err-at-clause-fault c =
    let p = err_from_is_err_and c.from_residual-in_err-at.result c.from_residual-in_err-at.ensures.1 in
    rw (p.1, p.2) (listed_faulty c.in_err-at.field-0.0 c.args.bytes.now c.loop.counter c.loop.at c.requires.form
    (omega (arith, c.loop-test.true, c.read_long-end.ensures)) c.loop.invariant.place c.in_err-at.ensures.fault)

-- one node more
more : (bytes own own' : List ℕ) (n at : ℕ) → at ≡ place_of bytes n → own' ≡ own ++ at ∷ [] → AreListedThere bytes own n
    → IsListedThere bytes at → AreListedThere bytes own' (n + 1)
more bytes own own' n at e pushed all one = record {
  nodes = λ i less. node_at i (cases_lt i n) less;
  counted = ap length pushed ∙ (length_push own at ∙ ap (λ k. k + 1) all.counted);
  places = λ i less. ap (λ (xs : List ℕ). slice_index xs i) pushed ∙ place_at i (cases_lt i n) less;
} where
  node_at : (i : ℕ) → (i < n) ⊎ (n ≤ i) → i < n + 1 → IsListedThere bytes (place_of bytes i)
  node_at i (inl less) h = all.nodes i less
  node_at i (inr le) h = let same : n ≡ i = omega (arith, le, h) in
      subst (λ k. IsListedThere bytes (place_of bytes k)) same (subst (λ k. IsListedThere bytes k) e one)

  place_at : (i : ℕ) → (i < n) ⊎ (n ≤ i) → i < n + 1 → slice_index (own ++ at ∷ []) i ≡ place_of bytes i
  place_at i (inl less) h = get_or_append_left own (at ∷ []) 0 i (omega (arith, less, all.counted)) ∙ all.places i less
  place_at i (inr le) h =
      let same : n ≡ i = omega (arith, le, h) in
      get_or_push own at 0 i (omega (arith, all.counted, same)) ∙ (e ∙ ap (λ k. place_of bytes k) same)

pub loop-preserved : goal.loop-preserved
loop-preserved c =
    let bytes = c.args.bytes.now in
    record {
      sound = more bytes c.loop.own.items c.push.new.self.items c.loop.counter c.loop.at c.loop.invariant.place
          c.in_ok-push.ensures.items c.loop.invariant.sound c.in_ok-at.ensures.sound;
      place = c.in_ok-at.ensures.end ∙ (ap (λ k. node_end bytes k) c.loop.invariant.place ∙ sym (next_place bytes c.loop.counter));
      room = omega (arith, c.in_ok-at.ensures.end, c.in_ok-at.ensures.sound.stands.room);
    }

pub returns-clause-end : goal.returns-clause-end
returns-clause-end c =
    let bytes = c.args.bytes.now in
    let all : c.loop.counter ≡ node_count bytes = omega (arith, c.read_long-end.ensures) in
    let whole : c.loop.at ≡ length bytes = omega (arith, c.loop.invariant.room, c.if-at-bytes.false) in
    ap (λ k. place_of bytes k) (sym all) ∙ (sym c.loop.invariant.place ∙ whole)
