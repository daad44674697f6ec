use Rattle.std.proofs.Common.{FitsSigned, sym, subst, rules, w8, w16, w32, w64}
use Rattle.std.proofs.lemmas.Int.{to_z-of_z}
use Rattle.fgb_values.specs.Values.{Whole}
use Rattle.feature_tables.specs.Records.{IsValue, byte, ubyte, truth, short, ushort, int, uint, long, ulong, float, double, text, json, date_time, binary}
use Rattle.feature_info.proofs.value.ValueInfo.of.Goals as goal

pub returns-in-Byte-clause-sound : goal.returns-in-Byte-clause-sound
returns-in-Byte-clause-sound c =
    let fits : FitsSigned w8 c.in-Byte.n = search rules in subst (λ z. IsValue 0 (Whole z)) (sym (to_z-of_z w8 c.in-Byte.n fits)) (byte fits)

pub returns-in-UByte-clause-sound : goal.returns-in-UByte-clause-sound
returns-in-UByte-clause-sound c = ubyte (search rules)

pub returns-in-Bool-clause-sound : goal.returns-in-Bool-clause-sound
returns-in-Bool-clause-sound c = truth

pub returns-in-Short-clause-sound : goal.returns-in-Short-clause-sound
returns-in-Short-clause-sound c =
    let fits : FitsSigned w16 c.in-Short.n = search rules in subst (λ z. IsValue 3 (Whole z)) (sym (to_z-of_z w16 c.in-Short.n fits)) (short fits)

pub returns-in-UShort-clause-sound : goal.returns-in-UShort-clause-sound
returns-in-UShort-clause-sound c = ushort (search rules)

pub returns-in-Int-clause-sound : goal.returns-in-Int-clause-sound
returns-in-Int-clause-sound c =
    let fits : FitsSigned w32 c.in-Int.n = search rules in subst (λ z. IsValue 5 (Whole z)) (sym (to_z-of_z w32 c.in-Int.n fits)) (int fits)

pub returns-in-UInt-clause-sound : goal.returns-in-UInt-clause-sound
returns-in-UInt-clause-sound c = uint (search rules)

pub returns-in-Long-clause-sound : goal.returns-in-Long-clause-sound
returns-in-Long-clause-sound c =
    let fits : FitsSigned w64 c.in-Long.n = search rules in subst (λ z. IsValue 7 (Whole z)) (sym (to_z-of_z w64 c.in-Long.n fits)) (long fits)

pub returns-in-ULong-clause-sound : goal.returns-in-ULong-clause-sound
returns-in-ULong-clause-sound c = ulong (search rules)

pub returns-in-Float-clause-sound : goal.returns-in-Float-clause-sound
returns-in-Float-clause-sound c = float (search rules)

pub returns-in-Double-clause-sound : goal.returns-in-Double-clause-sound
returns-in-Double-clause-sound c = double (search rules)

pub returns-in_ok-text_of-in-Str-clause-sound : goal.returns-in_ok-text_of-in-Str-clause-sound
returns-in_ok-text_of-in-Str-clause-sound c = text c.in_ok-text_of-in-Str.ensures.sound

pub returns-in_ok-text_of-in-Json-clause-sound : goal.returns-in_ok-text_of-in-Json-clause-sound
returns-in_ok-text_of-in-Json-clause-sound c = json c.in_ok-text_of-in-Json.ensures.sound

pub returns-in_ok-text_of-in-DateTime-clause-sound : goal.returns-in_ok-text_of-in-DateTime-clause-sound
returns-in_ok-text_of-in-DateTime-clause-sound c = date_time c.in_ok-text_of-in-DateTime.ensures.sound

pub returns-in_ok-text_of-in-Binary-clause-sound : goal.returns-in_ok-text_of-in-Binary-clause-sound
returns-in_ok-text_of-in-Binary-clause-sound c = binary c.in_ok-text_of-in-Binary.ensures.sound
