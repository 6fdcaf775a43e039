-- A name is looked up by its number, among the names of its length.
use Rattle.std.proofs.Common.{arith, lit≤, refl, sym, ◌∙◌, ◌≡◌, false, length, ◌==◌}
use Rattle.std.specs.Int.{w32, w64}
use Rattle.std.specs.List.{list_any}
use Rattle.std.proofs.lemmas.Bool.Decides.{nat_tests}
use Rattle.linkinfo_numbers.specs.Kind.{
  tag_of_name-number,
  tag_of_name-number_then,
  tag_of_name-other_length,
  name_lengths,
}
use Rattle.linkinfo_numbers.specs.NameNumber.{tells_4, tells_8}
use Rattle.linkinfo_numbers.proofs.tags.tag_of_name.Goals as goal

pub returns-in-len3 : goal.returns-in-len3
returns-in-len3 c =
    c.tag_of_three.ensures
    ∙ tag_of_name-number w32 tells_4 3 _ c.args.name.now (λ i. omega (arith, c.type_inv.name i))
    (omega arith) refl c.from_le_bytes.ensures

pub returns-in-len4 : goal.returns-in-len4
returns-in-len4 c =
    c.tag_of_four.ensures
    ∙ tag_of_name-number w32 tells_4 4 _ c.args.name.now (λ i. omega (arith, c.type_inv.name i))
    (omega arith) refl c.from_le_bytes-in-len4.ensures

pub returns-in-len5 : goal.returns-in-len5
returns-in-len5 c =
    c.tag_of_five.ensures
    ∙ tag_of_name-number w64 tells_8 5 _ c.args.name.now (λ i. omega (arith, c.type_inv.name i))
    (omega arith) refl c.from_le_bytes-in-len5.ensures

pub returns-in-len6 : goal.returns-in-len6
returns-in-len6 c =
    c.tag_of_six.ensures
    ∙ tag_of_name-number w64 tells_8 6 _ c.args.name.now (λ i. omega (arith, c.type_inv.name i))
    (omega arith) refl c.from_le_bytes-in-len6.ensures

pub returns-in-len7 : goal.returns-in-len7
returns-in-len7 c =
    c.tag_of_seven.ensures
    ∙ tag_of_name-number w64 tells_8 7 _ c.args.name.now (λ i. omega (arith, c.type_inv.name i))
    (omega arith) refl c.from_le_bytes-in-len7.ensures

pub returns-in-len9 : goal.returns-in-len9
returns-in-len9 c =
    c.tag_of_nine.ensures
    ∙ tag_of_name-number_then w64 tells_8 9 _ _ c.args.name.now
    (λ i. omega (arith, c.type_inv.name i)) (omega arith) (lit≤ tt) c.from_le_bytes-in-len9.ensures
    refl

pub returns-in_default : goal.returns-in_default
returns-in_default c =
    let unknown : list_any (λ n. n == length c.args.name.now) name_lengths ≡ false =
    grind (arith, nat_tests) in
    sym (tag_of_name-other_length c.args.name.now unknown)

pub returns-in_default-2 : goal.returns-in_default-2
returns-in_default-2 c =
    let unknown : list_any (λ n. n == length c.args.name.now) name_lengths ≡ false =
    grind (arith, nat_tests) in
    sym (tag_of_name-other_length c.args.name.now unknown)

pub returns-in_default-3 : goal.returns-in_default-3
returns-in_default-3 c =
    let unknown : list_any (λ n. n == length c.args.name.now) name_lengths ≡ false =
    grind (arith, nat_tests) in
    sym (tag_of_name-other_length c.args.name.now unknown)
