use Rattle.hol_kernel.proofs.Growing.{extends_trans, thm_stays}
use Rattle.hol_derived.proofs.Splits.{formula_stays}
use Rattle.hol_refutations.proofs.Steps.{stays_false}
use Rattle.logic_tests.proofs.refutations.quantifiers_are_told.Goals as goal

pub all_at-requires-clause-whole : goal.all_at-requires-clause-whole
all_at-requires-clause-whole c = c.requires.every

pub all_at-requires-clause-value : goal.all_at-requires-clause-value
all_at-requires-clause-value c = c.requires.value

pub all_at-requires-clause-th : goal.all_at-requires-clause-th
all_at-requires-clause-th c = c.requires.th

pub all_at-requires-clause-refuted : goal.all_at-requires-clause-refuted
all_at-requires-clause-refuted c = c.requires.th_false

pub returns-in_err-every : goal.returns-in_err-every
returns-in_err-every c = record { kept = c.all_at.ensures.kept }

pub some_chosen-requires-clause-whole : goal.some_chosen-requires-clause-whole
some_chosen-requires-clause-whole c = formula_stays _ _ _ c.all_at.ensures.kept c.requires.some

pub some_chosen-requires-clause-th : goal.some_chosen-requires-clause-th
some_chosen-requires-clause-th c = thm_stays _ _ _ c.all_at.ensures.kept c.requires.th

pub some_chosen-requires-clause-refuted : goal.some_chosen-requires-clause-refuted
some_chosen-requires-clause-refuted c = stays_false _ _ c.args.th.0 c.all_at.ensures.kept c.requires.th c.requires.th_false

pub returns-in_err-held : goal.returns-in_err-held
returns-in_err-held c = record { kept = extends_trans _ _ _ c.all_at.ensures.kept c.some_chosen.ensures.kept }

pub not_all_chosen-requires-clause-whole : goal.not_all_chosen-requires-clause-whole
not_all_chosen-requires-clause-whole c = formula_stays _ _ _ (extends_trans _ _ _ c.all_at.ensures.kept c.some_chosen.ensures.kept) c.requires.each

pub not_all_chosen-requires-clause-th : goal.not_all_chosen-requires-clause-th
not_all_chosen-requires-clause-th c = thm_stays _ _ _ (extends_trans _ _ _ c.all_at.ensures.kept c.some_chosen.ensures.kept) c.requires.th

pub not_all_chosen-requires-clause-refuted : goal.not_all_chosen-requires-clause-refuted
not_all_chosen-requires-clause-refuted c = stays_false _ _ c.args.th.0 (extends_trans _ _ _ c.all_at.ensures.kept c.some_chosen.ensures.kept) c.requires.th c.requires.th_false

pub returns-in_err-failed : goal.returns-in_err-failed
returns-in_err-failed c = record { kept = extends_trans _ _ _ (extends_trans _ _ _ c.all_at.ensures.kept c.some_chosen.ensures.kept) c.not_all_chosen.ensures.kept }

pub returns : goal.returns
returns c = record { kept = extends_trans _ _ _ (extends_trans _ _ _ c.all_at.ensures.kept c.some_chosen.ensures.kept) c.not_all_chosen.ensures.kept }
