use Rattle.text_kit.proofs.Cutting as cutting
use Rattle.text_kit.proofs.cut.one_cut.Goals as goal

pub returns-clause-some : goal.returns-clause-some
returns-clause-some c = cutting.has_answer

pub returns-clause-one : goal.returns-clause-one
returns-clause-one c = cutting.one_cut
