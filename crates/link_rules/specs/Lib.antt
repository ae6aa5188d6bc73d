-- Document 01's rules of two modules on one wire, and the demands on them.
pub mod Link
pub mod LinkExamples
pub mod LinkDemands
-- What passes over the wire (document 02, Thirteen):
pub mod WireDemands
