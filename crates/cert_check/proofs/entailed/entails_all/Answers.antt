use Rattle.cert_check.proofs.entailed.entails_all.Goals as goal

pub returns : goal.returns
returns g c =
    let so_far = c.first_out_of_turn-at.ensures.so_far in
    (λ t. so_far.0 (c.follow_from.ensures.0 t), λ h. c.follow_from.ensures.1 (so_far.1 h))
