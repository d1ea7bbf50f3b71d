-- How a command ends, and whether it was done.
use Rattle.std.proofs.Common.{◌≡◌, Bool, true, false, inl, inr, refl}
use Rattle.std.specs.Prelude.{◌↔◌}
use Rattle.wording.specs.declared.told.End.{End}
use Rattle.wording.specs.declared.told.End.TheVariants.{Done, Doubtful, No, Refused}
use Rattle.wording.specs.Told.{EndsBy, end_doubted, end_of, was_done}

-- by what it was made of
pub done_of : (b : Bool) → was_done (end_of b) ≡ b
done_of true = refl
done_of false = refl

-- what is doubtful was done
pub done_doubted : (b : Bool) (end : End) → was_done (end_doubted b end) ≡ was_done end
done_doubted true Done = refl
done_doubted true Doubtful = refl
done_doubted true No = refl
done_doubted true Refused = refl
done_doubted false Done = refl
done_doubted false Doubtful = refl
done_doubted false No = refl
done_doubted false Refused = refl

-- as a test of it says
pub ends_by : (Holds : Type 0) (b : Bool) (end : End) → end ≡ end_of b → ((b ≡ true) ↔ Holds) → EndsBy Holds end
ends_by Holds true end e iff = inl (e, iff.0 refl)
ends_by Holds false end e iff = inr (e, λ holds. absurd (cc (iff.1 holds)))

-- by what says the same
pub ends_alike : (P Q : Type 0) (end : End) → (P ↔ Q) → EndsBy P end → EndsBy Q end
ends_alike P Q end iff (inl (e, holds)) = inl (e, iff.0 holds)
ends_alike P Q end iff (inr (e, none)) = inr (e, λ holds. none (iff.1 holds))
