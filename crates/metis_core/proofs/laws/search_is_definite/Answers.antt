use Rattle.fo_infer.proofs.OneLists.{one_alone, one_between}
use Rattle.metis_core.proofs.Functional.{run_one, end_one}
use Rattle.metis_core.proofs.laws.search_is_definite.Goals as goal

pub returns : goal.returns
returns c = record {
  state = λ given. run_one one_alone (λ position p q. one_between p q position) given;
  end = λ given. end_one one_alone (λ position p q. one_between p q position) given;
}
