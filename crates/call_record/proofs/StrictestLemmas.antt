-- Which verdict is strictest, by the ranks of the actions.
use Rattle.std.proofs.Common.{◌≡◌, ℕ, ◌+◌, ◌*◌, ◌/◌, ◌%◌, ◌^◌, ◌<◌, ◌≤◌, Bool, true, false, cond, List, [], ◌∷◌, Some}
use Rattle.std.proofs.Common.{refl, ap, sym, ◌∙◌, arith, inl, inr, min, reverse}
use Rattle.std.specs.Prelude.{◌==◌, ◌&&◌, not, find, unwrap_or, int_lt, nat_le, nat_lt, fold}
use Rattle.std.specs.List.{All, Contains, list_all}
use Rattle.std.proofs.lemmas.List.Elements.{All-nil, All-cons, All-weaker, All-contains}
use Rattle.std.specs.Int.{w32, cast_signed}
use Rattle.std.proofs.lemmas.Bool.{cases_lt, cond-true, cond-false, le-leb, lt-leb, leb-true, leb-false, ltb-true}
use Rattle.std.proofs.lemmas.Bool.{ltb-false, le-ltb, eqb-true, or_cases}
use Rattle.std.proofs.lemmas.List.Sums.{fold-append}
use Rattle.std.proofs.lemmas.Grind.{reverse_onto}
use Rattle.std.proofs.lemmas.Bool.Decides.{nat_tests}
use Rattle.std.proofs.lemmas.Int.{ints}
use Rattle.std.proofs.lemmas.Nat.Bits.{and_high}
use Rattle.call_record.specs.Verdict.{action, allow, log, is_stricter, is_least, strictest_of, IsRefusal, Through}

-- the rank of a verdict: its action as a signed number, moved up so that the least one is 0
pub rank : ℕ → ℕ
rank v = (action v + 2 ^ 31) % 2 ^ 32

-- the rank of ALLOW, the highest
abbrev top : ℕ
top = 0xffff0000

-- an action is the high half of the verdict
action-high : (v : ℕ) → action v ≡ v / 2 ^ 16 % 2 ^ 16 * 2 ^ 16
action-high v = and_high v 16 16

rank_le_top : (v : ℕ) → rank v ≤ top
unfolding rank
rank_le_top v = let e : action v ≡ v / 2 ^ 16 % 2 ^ 16 * 2 ^ 16 = action-high v in omega arith

-- the order of signed numbers, by their bits
signed_order : (a b : ℕ) → a < 2 ^ 32 → b < 2 ^ 32
    → int_lt (cast_signed w32 a) (cast_signed w32 b) ≡ nat_lt ((a + 2 ^ 31) % 2 ^ 32) ((b + 2 ^ 31) % 2 ^ 32)
signed_order a b p q = grind (arith, ints, nat_tests)

-- the stricter verdict has the lower rank
pub is_stricter-rank : (v w : ℕ) → is_stricter v w ≡ nat_lt (rank v) (rank w)
unfolding rank
is_stricter-rank v w =
    let e : action v ≡ v / 2 ^ 16 % 2 ^ 16 * 2 ^ 16 = action-high v in
    let f : action w ≡ w / 2 ^ 16 % 2 ^ 16 * 2 ^ 16 = action-high w in
    signed_order (action v) (action w) (omega arith) (omega arith)

highest_alone : (h : ℕ) → h < 2 ^ 16 → (h * 2 ^ 16 == allow) ≡ nat_le top ((h * 2 ^ 16 + 2 ^ 31) % 2 ^ 32)
highest_alone h p = grind (arith, nat_tests)

-- ALLOW alone has the highest rank
is_allow-rank : (v : ℕ) → (action v == allow) ≡ nat_le top (rank v)
unfolding rank
is_allow-rank v = rw action-high (highest_alone (v / 2 ^ 16 % 2 ^ 16) (omega arith))

-- the least rank of a list
pub least_rank : List ℕ → ℕ
least_rank [] = top
least_rank (w ∷ ws) = min (rank w) (least_rank ws)

below_both : (x y m : ℕ) → (not (nat_lt x y) && nat_le y m) ≡ nat_le y (min x m)
below_both x y m = grind (arith, nat_tests)

is_least-rank : (ws : List ℕ) (v : ℕ) → is_least ws v ≡ nat_le (rank v) (least_rank ws)
unfolding least_rank
is_least-rank [] v = sym (le-leb (rank v) top (rank_le_top v))
is_least-rank (w ∷ ws) v =
    ap (λ b. not b && is_least ws v) (is_stricter-rank w v)
    ∙ ap (λ b. not (nat_lt (rank w) (rank v)) && b) (is_least-rank ws v)
    ∙ below_both (rank w) (rank v) (least_rank ws)

above_both : (t x m : ℕ) → (nat_le t x && nat_le t m) ≡ nat_le t (min x m)
above_both t x m = grind (arith, nat_tests)

all_allow-rank : (ws : List ℕ) → list_all (λ w. action w == allow) ws ≡ nat_le top (least_rank ws)
unfolding least_rank
all_allow-rank [] = refl
all_allow-rank (w ∷ ws) =
    ap (λ b. b && list_all (λ u. action u == allow) ws) (is_allow-rank w)
    ∙ ap (λ b. nat_le top (rank w) && b) (all_allow-rank ws)
    ∙ above_both top (rank w) (least_rank ws)

find_same : (p q : ℕ → Bool) → ((v : ℕ) → p v ≡ q v) → (ws : List ℕ) → find p ws ≡ find q ws
find_same p q same [] = refl
find_same p q same (w ∷ ws) =
    ap (λ b. cond b (Some w) (find p ws)) (same w) ∙ ap (λ o. cond (q w) (Some w) o) (find_same p q same ws)

-- the first verdict of at most this rank
abbrev first_at : ℕ → List ℕ → ℕ
first_at t ws = unwrap_or (find (λ v. nat_le (rank v) t) ws) allow

-- the definition, by ranks
strictest_of-rank : (ws : List ℕ) → strictest_of ws ≡ cond (nat_le top (least_rank ws)) allow (first_at (least_rank ws) ws)
unfolding strictest_of
strictest_of-rank ws =
    ap (λ b. cond b allow (unwrap_or (find (is_least ws) ws) allow)) (all_allow-rank ws)
    ∙ ap (λ o. cond (nat_le top (least_rank ws)) allow (unwrap_or o allow))
    (find_same (is_least ws) (λ v. nat_le (rank v) (least_rank ws)) (is_least-rank ws) ws)

strictest_of-first : (ws : List ℕ) → least_rank ws < top → strictest_of ws ≡ first_at (least_rank ws) ws
strictest_of-first ws low = strictest_of-rank ws ∙ cond-false _ allow (first_at (least_rank ws) ws) (lt-leb top (least_rank ws) low)

strictest_of-allow : (ws : List ℕ) → top ≤ least_rank ws → strictest_of ws ≡ allow
strictest_of-allow ws high = strictest_of-rank ws ∙ cond-true _ allow (first_at (least_rank ws) ws) (le-leb top (least_rank ws) high)

first_at-past : (t v : ℕ) (ws : List ℕ) → t < rank v → first_at t (v ∷ ws) ≡ first_at t ws
first_at-past t v ws past = ap (λ o. unwrap_or o allow) (cond-false _ (Some v) (find (λ u. nat_le (rank u) t) ws) (lt-leb (rank v) t past))

first_at-here : (t v : ℕ) (ws : List ℕ) → rank v ≤ t → first_at t (v ∷ ws) ≡ v
first_at-here t v ws here = ap (λ o. unwrap_or o allow) (cond-true _ (Some v) (find (λ u. nat_le (rank u) t) ws) (le-leb (rank v) t here))

rank-first_at : (ws : List ℕ) (t : ℕ) → least_rank ws ≡ t → t < top → rank (first_at t ws) ≡ t
unfolding least_rank
rank-first_at [] t e low = absurd (omega arith)
rank-first_at (w ∷ ws) t e low =
    elim (cases_lt t (rank w)) [
      | inl past ↦ ap rank (first_at-past t w ws past) ∙ rank-first_at ws t (omega arith) low
      | inr here ↦ ap rank (first_at-here t w ws here) ∙ omega arith
    ]

least_rank_le_top : (ws : List ℕ) → least_rank ws ≤ top
unfolding least_rank
least_rank_le_top [] = omega arith
least_rank_le_top (w ∷ ws) = let h : least_rank ws ≤ top = least_rank_le_top ws in omega arith

-- the strictest verdict has the least rank
pub rank-strictest_of : (ws : List ℕ) → rank (strictest_of ws) ≡ least_rank ws
rank-strictest_of ws =
    elim (cases_lt (least_rank ws) top) [
      | inl low ↦ ap rank (strictest_of-first ws low) ∙ rank-first_at ws (least_rank ws) refl low
      | inr high ↦
          let e : rank (strictest_of ws) ≡ rank allow = ap rank (strictest_of-allow ws high) in
          let k : top ≡ rank allow = unfold rank in refl in
          let h : least_rank ws ≤ top = least_rank_le_top ws in
          omega arith
    ]

least_rank-two : (v : ℕ) (ws : List ℕ) → least_rank (v ∷ strictest_of ws ∷ []) ≡ least_rank (v ∷ ws)
unfolding least_rank
least_rank-two v ws =
    let e : rank (strictest_of ws) ≡ least_rank ws = rank-strictest_of ws in
    let h : least_rank ws ≤ top = least_rank_le_top ws in
    omega arith

-- the strictest of a list is that of its newest verdict and the strictest of the others
pub strictest_of-cons : (v : ℕ) (ws : List ℕ) → strictest_of (v ∷ ws) ≡ strictest_of (v ∷ strictest_of ws ∷ [])
unfolding least_rank
strictest_of-cons v ws =
    let s : ℕ = strictest_of ws in
    let t : ℕ = least_rank (v ∷ ws) in
    let two : least_rank (v ∷ s ∷ []) ≡ t = least_rank-two v ws in
    let rs : rank s ≡ least_rank ws = rank-strictest_of ws in
    elim (cases_lt t top) [
      | inr high ↦ strictest_of-allow (v ∷ ws) high ∙ sym (strictest_of-allow (v ∷ s ∷ []) (omega arith))
      | inl low ↦
          let a : strictest_of (v ∷ ws) ≡ first_at t (v ∷ ws) = strictest_of-first (v ∷ ws) low in
          let b : strictest_of (v ∷ s ∷ []) ≡ first_at t (v ∷ s ∷ []) = strictest_of-first (v ∷ s ∷ []) (omega arith)
          ∙ ap (λ u. first_at u (v ∷ s ∷ [])) two in
          elim (cases_lt t (rank v)) [
            | inr here ↦ a ∙ first_at-here t v ws here ∙ sym (b ∙ first_at-here t v (s ∷ []) here)
            | inl past ↦
                let same : least_rank ws ≡ t = omega arith in
                let c : s ≡ first_at t ws = strictest_of-first ws (omega arith) ∙ ap (λ u. first_at u ws) same in
                a ∙ first_at-past t v ws past ∙ sym c ∙ sym (b ∙ first_at-past t v (s ∷ []) past ∙ first_at-here t s [] (omega arith))
          ]
    ]

least_rank-front : (v w : ℕ) (ws : List ℕ) → least_rank (strictest_of (v ∷ w ∷ []) ∷ ws) ≡ least_rank (v ∷ w ∷ ws)
unfolding least_rank
least_rank-front v w ws =
    let e : rank (strictest_of (v ∷ w ∷ [])) ≡ least_rank (v ∷ w ∷ []) = rank-strictest_of (v ∷ w ∷ []) in
    let h : least_rank ws ≤ top = least_rank_le_top ws in
    omega arith

-- the two newest verdicts may be taken first
pub strictest_of-front : (v w : ℕ) (ws : List ℕ) → strictest_of (strictest_of (v ∷ w ∷ []) ∷ ws) ≡ strictest_of (v ∷ w ∷ ws)
unfolding least_rank
strictest_of-front v w ws =
    let s : ℕ = strictest_of (v ∷ w ∷ []) in
    let t : ℕ = least_rank (v ∷ w ∷ ws) in
    let front : least_rank (s ∷ ws) ≡ t = least_rank-front v w ws in
    let rs : rank s ≡ least_rank (v ∷ w ∷ []) = rank-strictest_of (v ∷ w ∷ []) in
    elim (cases_lt t top) [
      | inr high ↦ strictest_of-allow (s ∷ ws) (omega arith) ∙ sym (strictest_of-allow (v ∷ w ∷ ws) high)
      | inl low ↦
          let a : strictest_of (v ∷ w ∷ ws) ≡ first_at t (v ∷ w ∷ ws) = strictest_of-first (v ∷ w ∷ ws) low in
          let b : strictest_of (s ∷ ws) ≡ first_at t (s ∷ ws) = strictest_of-first (s ∷ ws) (omega arith) ∙ ap (λ u. first_at u (s ∷ ws)) front in
          elim (cases_lt t (rank v)) [
            | inr here ↦
                let same : s ≡ v = strictest_of-first (v ∷ w ∷ []) (omega arith) ∙ first_at-here _ v (w ∷ []) (omega arith) in
                b ∙ first_at-here t s ws (omega arith) ∙ same ∙ sym (a ∙ first_at-here t v (w ∷ ws) here)
            | inl past ↦ elim (cases_lt t (rank w)) [
              | inr here ↦
                  let same : s ≡ w =
                  strictest_of-first (v ∷ w ∷ []) (omega arith) ∙ first_at-past _ v (w ∷ []) (omega arith) ∙ first_at-here _ w [] (omega arith) in
                  b ∙ first_at-here t s ws (omega arith) ∙ same ∙ sym (a ∙ first_at-past t v (w ∷ ws) past ∙ first_at-here t w ws here)
              | inl older ↦
                  b ∙ first_at-past t s ws (omega arith) ∙ sym (a ∙ first_at-past t v (w ∷ ws) past ∙ first_at-past t w ws older)
            ]
          ]
    ]

-- a verdict that is the strictest alone stays
pub strictest_of-alone : (v : ℕ) → strictest_of (v ∷ allow ∷ []) ≡ strictest_of (v ∷ [])
unfolding strictest_of
strictest_of-alone v = sym (strictest_of-cons v [])

-- Of two verdicts the newer one, unless the older one is stricter. Data of ALLOW are dropped.
pub older_is_stricter : (newer older : ℕ) → is_stricter older newer ≡ true → strictest_of (newer ∷ older ∷ []) ≡ older
unfolding least_rank
older_is_stricter newer older h =
    let less : rank older < rank newer = ltb-true _ _ (sym (is_stricter-rank older newer) ∙ h) in
    let n : rank newer ≤ top = rank_le_top newer in
    strictest_of-first (newer ∷ older ∷ []) (omega arith)
    ∙ first_at-past _ newer (older ∷ []) (omega arith)
    ∙ first_at-here _ older [] (omega arith)

pub newer_allows : (newer older : ℕ) → is_stricter older newer ≡ false → (action newer == allow) ≡ true
    → strictest_of (newer ∷ older ∷ []) ≡ allow
unfolding least_rank
newer_allows newer older h a =
    let more : rank newer ≤ rank older = ltb-false _ _ (sym (is_stricter-rank older newer) ∙ h) in
    let high : top ≤ rank newer = leb-true _ _ (sym (is_allow-rank newer) ∙ a) in
    strictest_of-allow (newer ∷ older ∷ []) (omega arith)

pub newer_stays : (newer older : ℕ) → is_stricter older newer ≡ false → (action newer == allow) ≡ false
    → strictest_of (newer ∷ older ∷ []) ≡ newer
unfolding least_rank
newer_stays newer older h a =
    let more : rank newer ≤ rank older = ltb-false _ _ (sym (is_stricter-rank older newer) ∙ h) in
    let low : rank newer < top = leb-false _ _ (sym (is_allow-rank newer) ∙ a) in
    strictest_of-first (newer ∷ older ∷ []) (omega arith) ∙ first_at-here _ newer (older ∷ []) (omega arith)

-- the verdicts taken one after the other, from the oldest on
pub fold-strictest_of : (ws : List ℕ) → fold (λ older newer. strictest_of (newer ∷ older ∷ [])) allow (reverse ws) ≡ strictest_of ws
unfolding strictest_of
fold-strictest_of [] = refl
fold-strictest_of (w ∷ ws) =
    ap (fold (λ older newer. strictest_of (newer ∷ older ∷ [])) allow) (reverse_onto ws w [])
    ∙ fold-append (λ older newer. strictest_of (newer ∷ older ∷ [])) allow (reverse ws) (w ∷ [])
    ∙ ap (λ older. strictest_of (w ∷ older ∷ [])) (fold-strictest_of ws)
    ∙ sym (strictest_of-cons w ws)

all_above : (ws : List ℕ) → All (λ w. least_rank ws ≤ rank w) ws
unfolding least_rank
all_above [] = All-nil (λ w. top ≤ rank w)
all_above (w ∷ ws) =
    All-cons (λ u. min (rank w) (least_rank ws) ≤ rank u) w ws (omega arith)
    (All-weaker (λ u. least_rank ws ≤ rank u) (λ u. min (rank w) (least_rank ws) ≤ rank u) (λ u h. omega arith) ws (all_above ws))

least_rank_le : (ws : List ℕ) (v : ℕ) → Contains ws v → least_rank ws ≤ rank v
least_rank_le ws v h = All-contains (λ w. least_rank ws ≤ rank w) ws v (all_above ws) h

-- the strictest of a list is no less strict than each verdict of it
pub strictest_of-least : (ws : List ℕ) (v : ℕ) → Contains ws v → is_stricter v (strictest_of ws) ≡ false
strictest_of-least ws v h =
    is_stricter-rank v (strictest_of ws) ∙ le-ltb _ _ (rw rank-strictest_of (least_rank_le ws v h))

through_rank : (v : ℕ) → Through v → rank log ≤ rank v
unfolding rank
through_rank v h = elim (or_cases (action v == allow) (action v == log) h) [
  | inl a ↦ let e : action v ≡ allow = eqb-true _ _ a in omega arith
  | inr l ↦ let e : action v ≡ log = eqb-true _ _ l in omega arith
]

-- what one filter refuses is not carried out
pub refusal_stands : (ws : List ℕ) (v : ℕ) → Contains ws v → IsRefusal v → Through (strictest_of ws) → ⊥
refusal_stands ws v listed refusal through =
    let less : rank v < rank log = ltb-true _ _ (sym (is_stricter-rank v log) ∙ refusal) in
    let least : least_rank ws ≤ rank v = least_rank_le ws v listed in
    let e : rank (strictest_of ws) ≡ least_rank ws = rank-strictest_of ws in
    let t : rank log ≤ rank (strictest_of ws) = through_rank (strictest_of ws) through in
    omega arith
