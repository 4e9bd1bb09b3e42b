use Rattle.logic_tests.proofs.refutations.constant_property_is_told.Goals as goal

pub bound_are_told-told-requires : goal.bound_are_told-told-requires
bound_are_told-told-requires c = c.bool_type-ty.ensures
