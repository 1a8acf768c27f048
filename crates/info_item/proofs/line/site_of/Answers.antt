use Rattle.info_item.proofs.Lines.{site_first, site_second, site_last}
use Rattle.info_item.proofs.line.site_of.Goals as goal

pub returns-in-Some : goal.returns-in-Some
returns-in-Some c = site_first _ _ _ (rw c.in-Some.is at c.site_name.ensures)

pub returns-in-Some-site_name : goal.returns-in-Some-site_name
returns-in-Some-site_name c =
    site_second _ _ _ (rw c.in-None.is at c.site_name.ensures) (rw c.in-Some-site_name.is at c.site_name-in-None.ensures)

pub returns-in-None-site_name : goal.returns-in-None-site_name
returns-in-None-site_name c =
    site_last _ _ (rw c.in-None.is at c.site_name.ensures) (rw c.in-None-site_name.is at c.site_name-in-None.ensures)
