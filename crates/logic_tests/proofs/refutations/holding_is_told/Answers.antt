use Rattle.kernel_rules.specs.Connectives.{chosen}
use Rattle.hol_kernel.proofs.Growing.{extends_trans, thm_stays}
use Rattle.hol_derived.proofs.Splits.{formula_stays}
use Rattle.hol_refutations.proofs.Steps.{stays_false}
use Rattle.hol_refutations.proofs.Named.{named_by}
use Rattle.logic_tests.proofs.refutations.holding_is_told.Goals as goal

pub own_name-requires : goal.own_name-requires
own_name-requires c = c.requires.some

pub some_named-requires-clause-whole : goal.some_named-requires-clause-whole
some_named-requires-clause-whole c = formula_stays _ _ _ c.own_name.ensures.kept c.requires.some

pub some_named-requires-clause-name : goal.some_named-requires-clause-name
some_named-requires-clause-name c = c.in_ok-name.ensures.gives.is_thm

pub some_named-requires-clause-names : goal.some_named-requires-clause-names
some_named-requires-clause-names c = named_by c.own_name.new.log c.in_ok-name.name.0 c.args.ty.now (chosen c.args.ty.now c.args.f.now) (chosen c.args.ty.now c.args.f.now) c.in_ok-name.ensures.gives.is

pub some_named-requires-clause-th : goal.some_named-requires-clause-th
some_named-requires-clause-th c = thm_stays _ _ _ c.own_name.ensures.kept c.requires.th

pub some_named-requires-clause-refuted : goal.some_named-requires-clause-refuted
some_named-requires-clause-refuted c = stays_false _ _ c.args.th.0 c.own_name.ensures.kept c.requires.th c.requires.th_false

pub returns-in_err-name : goal.returns-in_err-name
returns-in_err-name c = record { kept = c.own_name.ensures.kept }

pub returns-in_err-held : goal.returns-in_err-held
returns-in_err-held c = record { kept = extends_trans _ _ _ c.own_name.ensures.kept c.some_named.ensures.kept }

pub returns : goal.returns
returns c = record { kept = extends_trans _ _ _ c.own_name.ensures.kept c.some_named.ensures.kept }
