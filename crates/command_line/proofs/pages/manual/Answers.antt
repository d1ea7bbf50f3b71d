use Rattle.command_line.proofs.Told.{no_page, page_is}
use Rattle.command_line.proofs.pages.manual.Goals as goal

pub returns-in_ok-page-in-Some-called-clause-page : goal.returns-in_ok-page-in-Some-called-clause-page
returns-in_ok-page-in-Some-called-clause-page c name named =
    page_is c.commands-2.result.now c.called.result c.args.command c.in-Some.name name c.commands-2.ensures c.called.ensures c.in-Some.is named
    c.in-Some-called.entry _ c.in-Some-called.is c.in_ok-page-in-Some-called.ensures

pub returns-in-None-clause-page : goal.returns-in-None-clause-page
returns-in-None-clause-page c name named =
    no_page c.commands-2.result.now c.called.result c.args.command c.in-Some.name name c.commands-2.ensures c.called.ensures c.in-Some.is named
    c.in-None.is
