use Rattle.profile_json.proofs.unbroken.Unbroken as laws
use Rattle.profile_json.proofs.law.meaning_is_widened.Goals as goal

pub returns : goal.returns
returns c = laws.meaning_is_widened
