-- What follows from the definitions that the contracts cite.
-- Numbers in a file:
pub mod Numbers
-- Records by their places:
pub mod Records
-- Tables of numbers, written place by place:
pub mod Tables
