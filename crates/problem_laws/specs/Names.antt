-- The names that symbols have in a problem's text.
use Rattle.std.specs.Prelude.{ℕ, List, [], ◌++◌, codes, decimal, slice_get}
use Rattle.std.specs.Option.{option_map_or}
use Rattle.hol_terms.specs.declared.ty.Ty.{Ty}
use Rattle.hol_terms.specs.declared.konst.Konst.{Konst}
use Rattle.hol_terms.specs.declared.konst.Konst.TheVariants as konst
use Rattle.theory_terms.specs.declared.decl.Decl.{Decl}
use Rattle.tptp_print.specs.Numbers.{number_in}

-- that of a type's tag, by the list of the types that have numbers
abbrev pub tag_name : List Ty → Ty → List ℕ
tag_name types a = codes "t" ++ decimal (number_in types a)

-- that of a constant, by the declarations too
abbrev pub konst_name : List Ty → List Decl → Konst → List ℕ
konst_name types consts (konst.Named k) = codes "c_" ++ option_map_or (λ d. d.name) (slice_get consts k) []
konst_name types consts (konst.Aux k) = codes "l_" ++ decimal k
konst_name types consts konst.True = codes "k_true"
konst_name types consts konst.False = codes "k_false"
konst_name types consts konst.Not = codes "k_not"
konst_name types consts konst.And = codes "k_and"
konst_name types consts konst.Or = codes "k_or"
konst_name types consts konst.Imp = codes "k_imp"
konst_name types consts (konst.Eq a) = codes "k_eq_" ++ decimal (number_in types a)
konst_name types consts (konst.All a) = codes "k_all_" ++ decimal (number_in types a)
konst_name types consts (konst.Ex a) = codes "k_ex_" ++ decimal (number_in types a)
konst_name types consts (konst.Eps a) = codes "k_eps_" ++ decimal (number_in types a)
