-- Each arm has the row of the table that begins with its octets.
use Rattle.std.proofs.Common.{refl, ap, ◌∙◌, arith}
use Rattle.utf8.specs.Utf8.{row_from}
use Rattle.utf8.proofs.Sequences.{row, no_row}
use Rattle.utf8.proofs.lead_of.Goals as goal

pub returns-in-0-to-127 : goal.returns-in-0-to-127
returns-in-0-to-127 c = ap row_from c.begins-in-0-to-127.ensures ∙ row 0 0x00 0x7F _ refl refl (omega arith) (omega arith)

pub returns-in-194-to-223 : goal.returns-in-194-to-223
returns-in-194-to-223 c = ap row_from c.begins-in-194-to-223.ensures ∙ row 1 0xC2 0xDF _ refl refl (omega arith) (omega arith)

pub returns-in-224 : goal.returns-in-224
returns-in-224 c = ap row_from c.begins.ensures ∙ row 2 0xE0 0xE0 _ refl refl (omega arith) (omega arith)

pub returns-in-225-to-236 : goal.returns-in-225-to-236
returns-in-225-to-236 c = ap row_from c.begins-in-225-to-236.ensures ∙ row 3 0xE1 0xEC _ refl refl (omega arith) (omega arith)

pub returns-in-237 : goal.returns-in-237
returns-in-237 c = ap row_from c.begins-in-237.ensures ∙ row 4 0xED 0xED _ refl refl (omega arith) (omega arith)

pub returns-in-238-to-239 : goal.returns-in-238-to-239
returns-in-238-to-239 c = ap row_from c.begins-in-238-to-239.ensures ∙ row 5 0xEE 0xEF _ refl refl (omega arith) (omega arith)

pub returns-in-240 : goal.returns-in-240
returns-in-240 c = ap row_from c.begins-in-240.ensures ∙ row 6 0xF0 0xF0 _ refl refl (omega arith) (omega arith)

pub returns-in-241-to-243 : goal.returns-in-241-to-243
returns-in-241-to-243 c = ap row_from c.begins-in-241-to-243.ensures ∙ row 7 0xF1 0xF3 _ refl refl (omega arith) (omega arith)

pub returns-in-244 : goal.returns-in-244
returns-in-244 c = ap row_from c.begins-in-244.ensures ∙ row 8 0xF4 0xF4 _ refl refl (omega arith) (omega arith)

pub returns-in_default : goal.returns-in_default
returns-in_default c = no_row 1 0x80 0xC1 _ refl refl (omega arith) (omega arith)

pub returns-in_default-2 : goal.returns-in_default-2
returns-in_default-2 c = no_row 9 0xF5 0xFF _ refl refl (omega arith) (omega arith)
