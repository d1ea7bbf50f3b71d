use Rattle.cert_state.proofs.gathered.gives.Goals as goal

pub bounds-requires : goal.bounds-requires
bounds-requires g c = rw c.in-In.is at c.requires

pub returns-in-In : goal.returns-in-In
returns-in-In g c = rw c.in-In.is c.bounds.ensures

pub fixes-requires : goal.fixes-requires
fixes-requires g c = rw c.in-Bits.is at c.requires

pub returns-in-Bits : goal.returns-in-Bits
returns-in-Bits g c = rw c.in-Bits.is c.fixes.ensures

pub excludes-requires : goal.excludes-requires
excludes-requires g c = rw c.in-NotBits.is at c.requires

pub returns-in-NotBits : goal.returns-in-NotBits
returns-in-NotBits g c = rw c.in-NotBits.is c.excludes.ensures
