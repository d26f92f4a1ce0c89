-- The public numbers of the refusals.
use Rattle.std.specs.Prelude.{ℕ}
use Rattle.pgv_value.specs.declared.error.CodecError.{CodecError}
use Rattle.pgv_value.specs.declared.error.CodecError.TheVariants.{Memory, ValueSize, ArrayLength, IntervalPrecision, IntervalOverflow, OffsetRange, NumericDigits, NumericDigit, HstoreLength, ParameterCount, HoleCount, FieldCount, UnexpectedNull, Utf8, Short, NegativeLength, WrongLength, TextUnsupported, Dimensions, LowerBound, ElementType, ElementCount, NotARange, NotARecord, NoField, FieldOid, MismatchedTypes, FieldTypeUnknown, Syntax, OutOfRange, InetFamily, InetPrefix, LossyAddress, NumericSign, HstoreNullKey, LTree, LQuery, Caller}

-- n of Cn
abbrev pub code_of : CodecError → ℕ
code_of Memory = 1
code_of (ValueSize _) = 2
code_of (ArrayLength _) = 3
code_of IntervalPrecision = 4
code_of IntervalOverflow = 5
code_of (OffsetRange _) = 6
code_of (NumericDigits _) = 7
code_of (NumericDigit _) = 8
code_of (HstoreLength _) = 9
code_of ParameterCount = 10
code_of HoleCount = 11
code_of FieldCount = 12
code_of UnexpectedNull = 13
code_of Utf8 = 14
code_of Short = 15
code_of (NegativeLength _) = 16
code_of (WrongLength _) = 17
code_of TextUnsupported = 18
code_of (Dimensions _) = 19
code_of (LowerBound _) = 20
code_of (ElementType _) = 21
code_of (ElementCount _) = 22
code_of NotARange = 23
code_of NotARecord = 24
code_of (NoField _) = 25
code_of FieldOid = 26
code_of MismatchedTypes = 27
code_of (FieldTypeUnknown _) = 28
code_of Syntax = 29
code_of OutOfRange = 30
code_of (InetFamily _) = 31
code_of (InetPrefix _) = 32
code_of LossyAddress = 33
code_of (NumericSign _) = 34
code_of HstoreNullKey = 35
code_of (LTree _) = 36
code_of (LQuery _) = 37
code_of (Caller _) = 38
