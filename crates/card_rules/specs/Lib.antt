-- The card's rules, each file standing on those before it: Settings, Card, Edge, Calls. Then worked cases, Examples; and for whoever judges a card
-- its Figures, one who watches it, Watch, and the page, CardDemands.
pub mod Settings
pub mod Card
pub mod Edge
pub mod Calls
pub mod Examples
pub mod Figures
pub mod Watch
pub mod CardDemands
