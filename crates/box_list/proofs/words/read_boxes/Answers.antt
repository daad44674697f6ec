use Rattle.std.proofs.Common.{◌≡◌, ◌≤◌, length, Err}
use Rattle.order_keys.specs.declared.words.BoundFault.TheVariants.{Form}
use Rattle.box_list.specs.Lists.{box_parts}
use Rattle.box_list.specs.Lists.IsFault.{too_many}
use Rattle.box_list.proofs.Faults.{each_fault, no_more, only, refused, told}
use Rattle.box_list.proofs.words.read_boxes.Goals as goal

pub returns-then-has_too_many-clause-fault : goal.returns-then-has_too_many-clause-fault
returns-then-has_too_many-clause-fault c = too_many (c.has_too_many.ensures.0 c.if-has_too_many.true)

pub returns-then-has_too_many-clause-only : goal.returns-then-has_too_many-clause-only
returns-then-has_too_many-clause-only c = only c.args.text.now (Err Form) (too_many (c.has_too_many.ensures.0 c.if-has_too_many.true))

pub returns-then-has_too_many-clause-each_fault : goal.returns-then-has_too_many-clause-each_fault
returns-then-has_too_many-clause-each_fault c = each_fault c.args.text.now (Err Form) (too_many (c.has_too_many.ensures.0 c.if-has_too_many.true))

pub returns-clause-fault : goal.returns-clause-fault
returns-clause-fault c =
    let few : length (box_parts c.args.text.now) ≤ 8 = no_more c.has_too_many.result _ c.has_too_many.ensures c.if-has_too_many.false in
    refused c.args.text.now c.read_parts.result few c.read_parts.ensures.fault

pub returns-clause-only : goal.returns-clause-only
returns-clause-only c =
    let few : length (box_parts c.args.text.now) ≤ 8 = no_more c.has_too_many.result _ c.has_too_many.ensures c.if-has_too_many.false in
    only c.args.text.now c.read_parts.result (told c.args.text.now c.read_parts.result few c.read_parts.ensures.ok c.read_parts.ensures.fault)

pub returns-clause-each_fault : goal.returns-clause-each_fault
returns-clause-each_fault c =
    let few : length (box_parts c.args.text.now) ≤ 8 = no_more c.has_too_many.result _ c.has_too_many.ensures c.if-has_too_many.false in
    each_fault c.args.text.now c.read_parts.result (told c.args.text.now c.read_parts.result few c.read_parts.ensures.ok c.read_parts.ensures.fault)
