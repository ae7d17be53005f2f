use Rattle.std.proofs.Common.{Some, None}
use Rattle.std.proofs.lemmas.Result.{err_from_is_err_and}
use Rattle.text.proofs.Lasts.{home_split_push}
use Rattle.text.proofs.statement.split_home.Goals as goal

pub returns-in-None : goal.returns-in-None
returns-in-None c = home_split_push _ _ _ None c.in-Some.ensures.cases.0 c.in-None.ensures

pub returns-in_ok-home-in-Some-home_in : goal.returns-in_ok-home-in-Some-home_in
returns-in_ok-home-in-Some-home_in c =
    let read = rw c.in_ok-home-in-Some-home_in.was at c.in-Some-home_in.ensures in
    home_split_push _ _ _ (Some (Some c.in_ok-home-in-Some-home_in.field-0)) c.in-Some.ensures.cases.0 read

pub returns-in_err-home-in-Some-home_in : goal.returns-in_err-home-in-Some-home_in
returns-in_err-home-in-Some-home_in c =
    let failed = err_from_is_err_and c.from_residual.result c.from_residual.ensures.1 in
    let read = rw c.in_err-home-in-Some-home_in.was at c.in-Some-home_in.ensures in
    rw failed.1 (home_split_push _ _ _ (Some None) c.in-Some.ensures.cases.0 read)
