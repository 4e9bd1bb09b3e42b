-- The sides of an equation at another type than bool. Another term has none.
use Rattle.std.specs.Prelude.{if◌then◌else◌, Option, Some, None}
use Rattle.hol_terms.specs.declared.konst.Konst.{Konst}
use Rattle.hol_terms.specs.declared.konst.Konst.TheVariants as konst
use Rattle.hol_terms.specs.declared.term.Term.{Term, out-Term}
use Rattle.hol_terms.specs.declared.term.Term.TheOpen.{Term-F}
use Rattle.hol_terms.specs.Types.{is_ty, bool_ty}

abbrev pub sides_of_konst : Konst → Term → Term → Option (Term × Term)
sides_of_konst (konst.Eq a) s t = if is_ty a bool_ty then None else Some (s, t)
sides_of_konst _ s t = None

abbrev pub sides_of_head : Term-F Term → Term → Term → Option (Term × Term)
sides_of_head (Term-F.Con k) s t = sides_of_konst k s t
sides_of_head _ s t = None

abbrev pub sides_of_function : Term-F Term → Term → Option (Term × Term)
sides_of_function (Term-F.App h s) t = sides_of_head (out-Term h) s t
sides_of_function _ t = None

abbrev pub sides_at : Term-F Term → Option (Term × Term)
sides_at (Term-F.App f t) = sides_of_function (out-Term f) t
sides_at _ = None

abbrev pub sides : Term → Option (Term × Term)
sides t = sides_at (out-Term t)
