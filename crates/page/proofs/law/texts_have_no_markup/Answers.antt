use Rattle.page.proofs.Markup.{no_markup}
use Rattle.page.proofs.law.texts_have_no_markup.Goals as goal

pub returns : goal.returns
returns c = no_markup
