-- What follows from the definitions that the contracts cite.
-- How long a line is, byte by byte:
pub mod FirstLines
-- The forms that a line of a known length can have:
pub mod Forms
-- The numbers of digits:
pub mod Digits
-- The lines that are left, one after the other:
pub mod LinesLeft
