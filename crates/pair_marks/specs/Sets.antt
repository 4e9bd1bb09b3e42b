-- Marks in four words.
use Rattle.pair_marks.specs.declared.tops.Top.{Top}
use Rattle.pair_marks.specs.declared.marks.Marks.{Marks}
use Rattle.pair_marks.specs.Tops.{top_symbol}
use Rattle.pair_marks.specs.Words.{needed, offered, symbol_marks, Share, Inside}

-- what a term with this top needs of those that it is to meet, and offers to them
abbrev pub need : Top → Marks
need top = record { a = needed 64 top; b = needed 61 top; c = needed 59 top; symbols = symbol_marks 64 (top_symbol top) }

abbrev pub offer : Top → Marks
offer top = record { a = offered 64 top; b = offered 61 top; c = offered 59 top; symbols = symbol_marks 64 (top_symbol top) }

-- a mark in common in each word
pub record AllShare (m n : Marks) : Type 0 where
  pub a : Share m.a n.a
  pub b : Share m.b n.b
  pub c : Share m.c n.c
  pub symbols : Share m.symbols n.symbols

-- each mark of the one is among the other's
pub record Within (m n : Marks) : Type 0 where
  pub a : Inside m.a n.a
  pub b : Inside m.b n.b
  pub c : Inside m.c n.c
  pub symbols : Inside m.symbols n.symbols
