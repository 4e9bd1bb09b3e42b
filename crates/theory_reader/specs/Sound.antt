-- What the type of theories keeps.
use Rattle.std.specs.Prelude.{ℕ, ◌+◌, ◌^◌, nat_le, nat_lt, Bool, ◌&&◌, List, ◌++◌, length, map, take}
use Rattle.std.specs.List.{list_all}
use Rattle.hol_terms.specs.declared.sig.Sig.{Sig}
use Rattle.hol_terms.specs.Formulas.{is_sentence}
use Rattle.theory_terms.specs.declared.decl.Decl.{Decl}
use Rattle.theory_reader.specs.declared.statement.Fact.{Fact}
use Rattle.theory_reader.specs.declared.statement.Goal.{Goal}
use Rattle.theory_reader.specs.Names.{is_name, distinct}

abbrev pub fact_names : List Fact → List (List ℕ)
fact_names fs = map (λ f. f.name) fs

abbrev pub goal_names : List Goal → List (List ℕ)
goal_names gs = map (λ g. g.name) gs

abbrev pub const_names : List Decl → List (List ℕ)
const_names cs = map (λ c. c.name) cs

-- what a goal is proved from: the facts before it, and then its assumptions
abbrev pub seen_from : List Fact → Goal → List Fact
seen_from facts g = take g.before facts ++ g.assumes

-- each formula is a sentence over the signature
abbrev pub facts_hold_sentences : Sig → List Fact → Bool
facts_hold_sentences sig fs = list_all (λ f. is_sentence sig f.formula) fs

abbrev pub goals_hold_sentences : Sig → List Goal → Bool
goals_hold_sentences sig gs = list_all (λ g. is_sentence sig g.formula && facts_hold_sentences sig g.assumes) gs

-- each name is a word that isn't reserved
abbrev pub are_named : List (List ℕ) → List Decl → List Fact → List Goal → Bool
are_named types consts facts goals =
    list_all is_name types && list_all is_name (const_names consts) && list_all is_name (fact_names facts)
    && list_all (λ g. is_name g.name && list_all is_name (fact_names g.assumes)) goals

-- no two types, constants, facts or goals have one name, and no two facts that one goal is proved from
abbrev pub are_distinct : List (List ℕ) → List Decl → List Fact → List Goal → Bool
are_distinct types consts facts goals =
    distinct types && distinct (const_names consts) && distinct (fact_names facts) && distinct (goal_names goals)
    && list_all (λ g. distinct (fact_names (seen_from facts g))) goals

-- no more facts are said to stand before a goal than there are
abbrev pub are_behind : List Fact → List Goal → Bool
are_behind facts goals = list_all (λ g. nat_le g.before (length facts)) goals

-- at most 20,000 facts, and 64 assumptions of a goal
abbrev pub are_few : List Fact → List Goal → Bool
are_few facts goals = nat_le (length facts) 20000 && list_all (λ g. nat_le (length g.assumes) 64) goals

-- base types, bool among them, and goals are numbered in 32 bits
abbrev pub are_numbered : List (List ℕ) → List Goal → Bool
are_numbered types goals = nat_lt (1 + length types) (2 ^ 32) && nat_lt (length goals) (2 ^ 32)
