-- The numbers in terms and steps are below 2^64, as the numbers of a text are.
use Rattle.std.specs.Prelude.{ℕ, ◌^◌, ◌&&◌, nat_lt, Bool, true, List}
use Rattle.std.specs.List.{list_all}
use Rattle.hol_terms.specs.declared.term.Term.{Term}
use Rattle.hol_terms.specs.declared.term.Term.TheOpen.{Term-F}
use Rattle.hol_terms.specs.declared.term.Term.TheFolds.{fold-Term}
use Rattle.kernel_rules.specs.declared.step.Step.{Step}
use Rattle.proof_syntax.specs.Forms.{Arg, FactArg, NumberArg, TypeArg, TermArg, form}

abbrev pub fits : ℕ → Bool
fits n = nat_lt n (2 ^ 64)

abbrev pub term_fits_step : Term-F Bool → Bool
term_fits_step (Term-F.Bound n) = fits n
term_fits_step (Term-F.Free n a) = fits n
term_fits_step (Term-F.Con k) = true
term_fits_step (Term-F.App f x) = f && x
term_fits_step (Term-F.Lam a b) = b

abbrev pub term_fits : Term → Bool
term_fits = fold-Term Bool term_fits_step

abbrev pub arg_fits : Arg → Bool
arg_fits (FactArg n) = true
arg_fits (NumberArg n) = fits n
arg_fits (TypeArg a) = true
arg_fits (TermArg t) = term_fits t

abbrev pub args_fit : List Arg → Bool
args_fit args = list_all arg_fits args

abbrev pub steps_fit : List Step → Bool
steps_fit steps = list_all (λ s. args_fit (form s).args) steps
